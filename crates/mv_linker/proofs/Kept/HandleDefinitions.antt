-- Where the structs of a bundle's handles are defined, once it joins.
use Rattle.mv_linker.proofs.Common.{[], ℕ, ◌++◌, ◌+◌, ◌==◌, ◌>>=◌, ◌∙◌, ◌∷◌, ◌≡◌, AllZip, AreDefined, AreFoundFor, AreNamesOf, Bundled, Defined, Definition, IsDefined, IsFoundAt, IsSized}
use Rattle.mv_linker.proofs.Common.{IsSome, IsStructAt, List, Module, Names, None, Published, Some, StructDefinition, StructName, ap, arith, definition_of, find_index}
use Rattle.mv_linker.proofs.Common.{get_or_from_slice_get, is_some, is_struct, list_all, module_named, name_at, name_of_struct, none-some, own_name, places_in, position, refl}
use Rattle.mv_linker.proofs.Common.{same_Some, slice_get, slice_get_within, structs_are_there, subst, suc, sym, take, take_more, true, with_tables, zero}
use Rattle.mv_linker.proofs.Lemmas.{among-at, at-among, bundle-there, differ-result, found_at, module_place-is, own-definition, so-named, struct_named_so, element_at}
use Rattle.mv_linker.proofs.Joining.Bundled.{bundle-at, old-at, place-at}
use Rattle.mv_linker.proofs.Cycles.DependencyLemmas.{length-places}
use Rattle.mv_linker.proofs.StructSizes.JoinedSizes.{keeps-joined}
use Rattle.mv_linker.proofs.StructSizes.SizesStay.{definition_made, size-stays}
use Rattle.mv_linker.proofs.Joining.StillThere.{Joining}
use Rattle.std.proofs.lemmas.Slice.Zip.{AllZip-long}

-- ---- two lists, element by element

-- what an element of the second list has in the first
zip-back : {A B : Type 0} (R : A → B → Type 0) (xs : List A) (ys : List B) (k : ℕ) (y : B) → AllZip R xs ys → slice_get ys k ≡ Some y → (x : A) × (slice_get xs k ≡ Some x) × R x y
zip-back R xs [] k y h e = absurd (none-some y e)
zip-back R [] (z ∷ ys) k y h e = absurd h
zip-back R (x ∷ xs) (z ∷ ys) zero y h e = (x, refl, subst (R x) (same_Some z y e) h.0)
zip-back R (x ∷ xs) (z ∷ ys) (suc k) y h e = zip-back R xs ys k y h.1 e

-- one more element of each
pub zip-more : {A B : Type 0} (R : A → B → Type 0) (xs : List A) (ys : List B) (i : ℕ) (x : A) (y : B) → AllZip R (take i xs) ys → slice_get xs i ≡ Some x → R x y → AllZip R (take (i + 1) xs)
    (ys ++ y ∷ [])
zip-more {A = A} {B = B} R xs ys i x y h e r = rw (take_more xs i x (slice_get_within xs i x e), get_or_from_slice_get xs i x x e) (push (take i xs) ys h)
  where
    push : (us : List A) (vs : List B) → AllZip R us vs → AllZip R (us ++ x ∷ []) (vs ++ y ∷ [])
    push [] [] h = (r, tt)
    push (u ∷ us) (v ∷ vs) h = (h.0, push us vs h.1)
    push _ _ h = absurd h

-- ---- structs

-- a struct that was found by its name has it
pub name-found : (modules : List Module) (p i : ℕ) (m : Module) (name : StructName) → slice_get modules p ≡ Some m → find_index (is_struct m name) m.structs ≡ Some i → name_at modules p i ≡ Some name
name-found modules p i m name at found =
    let f = found_at (is_struct m name) m.structs i found in
    rw (at, f.at) (struct_named_so (name_of_struct m f.entry) name f.passes)

-- the struct of a handle is there
pub struct-there : (modules : List Module) (m : Module) (h : ℕ) (d : Definition) → IsStructAt modules m h d → IsSome (name_at modules d.place d.index)
struct-there modules m h d s = ap is_some (name-found modules d.place d.index s.home s.name s.there s.index)

-- a struct at a place that the bundle leaves is an old one
pub old-there : (old ns : List Module) (p i : ℕ) → position (λ x. x == p) (places_in old ns) ≡ None → IsSome (name_at (with_tables old ns) p i) → IsSome (name_at old p i)
old-there old ns p i none there = ap (λ o. is_some (o >>= λ m. slice_get m.structs i >>= λ d. name_of_struct m d)) (sym (old-at old ns p none)) ∙ there

module _ (old ns : List Module) (j : Joining old ns) (linked : list_all (λ m. structs_are_there old m 0 m.struct_handles) old ≡ true) where
  -- a struct that a handle names, where it was found
  defined-one : (m : Module) (h : ℕ) (d : Definition) (f : Defined) → IsStructAt (with_tables old ns) m h d → IsFoundAt old (places_in old ns) d f → IsDefined (with_tables old ns) ns m h f
  defined-one m h d (Bundled k index) s (found, same) =
      let place : slice_get (places_in old ns) k ≡ Some d.place = place-at d.place k (places_in old ns) found in
      let n = element_at ns k (omega (arith, slice_get_within (places_in old ns) k d.place place, length-places old ns)) in
      let home : s.home ≡ n.0 = same_Some s.home n.0 (sym s.there ∙ bundle-at old ns k d.place n.0 j.apart n.1 place) in
      (s.name, s.named, ap (name_at ns k) same ∙ name-found ns k d.index s.home s.name (n.1 ∙ ap (λ x. Some x) (sym home)) s.index)
  defined-one m h d (Published size) s (none, at) =
      let there : slice_get old d.place ≡ Some s.home = sym (old-at old ns d.place none) ∙ s.there in
      let f = found_at (is_struct s.home s.name) s.home.structs d.index s.index in
      let found = module_place-is (with_tables old ns) s.name.home d.place s.place in
      let own : own_name s.home ≡ Some s.name.home = ap own_name (same_Some s.home found.0 (sym s.there ∙ found.1)) ∙ found.2 in
      let home : module_named old s.name.home ≡ Some s.home = so-named old s.name.home s.home j.once (among-at old d.place s.home there) own in
      let defined : definition_of old s.name ≡ Some (s.home, f.entry.fields) = definition_made old s.name s.home d.index f.entry home s.index f.at in
      let one : at.name ≡ s.name = same_Some at.name s.name (sym at.named ∙ name-found old d.place d.index s.home s.name there s.index) in
      (s.name, s.named, size-stays old (with_tables old ns) (keeps-joined old ns j) linked s.name s.home f.entry.fields size defined (subst (λ (x : StructName). IsSized old x size) one at.sized))

  -- the bundle's own structs
  own-defined : (i k : ℕ) (m : Module) (d : StructDefinition) → slice_get ns i ≡ Some m → slice_get m.structs k ≡ Some d
      → (name : StructName) × (name_of_struct m d ≡ Some name) × (definition_of (with_tables old ns) name ≡ Some (m, d.fields))
  own-defined i k m d at d_at =
      let among = among-at ns i m at in
      let there = at-among (with_tables old ns) m (bundle-there old ns m j.apart among) in
      let own = own-definition (with_tables old ns) there.0 m (differ-result old ns j.once) there.1 (j.new_bounds m among) (j.new_defined m among) k d d_at in
      (own.0, own.1, own.2)

  -- all of them
  pub all-defined : (names : List Names) (found : List (List Defined)) → AreNamesOf (with_tables old ns) ns names → AllZip (AreFoundFor old (places_in old ns)) names found
      → AreDefined (with_tables old ns) ns found
  all-defined names found n f = record {
    len = AllZip-long (AreFoundFor old (places_in old ns)) names found f ∙ n.len;
    own = own-defined;
    count = λ i m fs at of.
        let x = zip-back (AreFoundFor old (places_in old ns)) names found i fs f of in
        AllZip-long (IsFoundAt old (places_in old ns)) x.0.structs.items fs x.2 ∙ (n.each i m x.0 at x.1).structs.len;
    each = λ i h m fs d at of d_at.
        let x = zip-back (AreFoundFor old (places_in old ns)) names found i fs f of in
        let e = zip-back (IsFoundAt old (places_in old ns)) x.0.structs.items fs h d x.2 d_at in
        defined-one m h e.0 d ((n.each i m x.0 at x.1).structs.each h e.0 e.1) e.2;
  }
