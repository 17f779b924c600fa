-- What is read of a function, and of the functions one after another.
use Rattle.mv_certificate.proofs.Common.{[], ℕ, ◌++◌, ◌+◌, ◌<◌, ◌∙◌, ◌∷◌, ◌≡◌, ◌≤◌, List, None, Some, ap, append-nil, append_assoc, arith, drop, flat_map, get_or, length, map, refl}
use Rattle.mv_certificate.proofs.Common.{slice_get, subst, suc, sym, take, zero, flat_map-append, take_all, take_more, none-some, same_Some, some_pair_parts, FunctionDefinition, Module}
use Rattle.mv_certificate.proofs.Common.{AreBytes, local_count, IsFlowGraph, Block, Cfg, Certificate, Stated, IsCertificateText, certificate_text, stated_text, stated_from, IsUnreadAt}
use Rattle.mv_certificate.proofs.Common.{AllStatedFit, StatedFits}
use Rattle.std.proofs.Common.{add-one}
use Rattle.std.proofs.lemmas.List.{drop_all}
use Rattle.std.proofs.lemmas.Option.{get_or_from_slice_get}
use Rattle.mv_certificate.specs.Reads.{IsFunctionRead, IsReadAt}
use Rattle.mv_certificate.proofs.Texts.{stated-parts}
use Rattle.mv_certificate.proofs.Marks.{stated-fits}
use Rattle.mv_certificate.proofs.States.{fit-length, fit-at}
use Rattle.mv_certificate.proofs.Whole.{stated-whole, marks-fit}
use Rattle.mv_bound_rules.proofs.Entries.{element_at}

module _ (m : Module) (d : FunctionDefinition) (g : Cfg) (few : length m.structs ≤ 65536) (small : local_count m d ≤ 64) (fg : IsFlowGraph d.code g) where
  -- what fits the function is read, whatever follows
  fitting-read : (rest : List ℕ) (ks : Stated) → StatedFits m d ks → stated_from m d (map (λ p. p.reached) g.blocks.items) (flat_map stated_text ks ++ rest) ≡ Some (ks, rest)
  fitting-read rest ks sf =
      ap (λ marks. stated_from m d marks (flat_map stated_text ks ++ rest)) (sym (marks-fit m d g ks fg sf)) ∙ stated-whole m d few (omega arith) rest ks sf.fits

  -- what is read of a function
  function-read : (bytes rest : List ℕ) (ks : Stated) → stated_from m d (map (λ p. p.reached) g.blocks.items) bytes ≡ Some (ks, rest) → AreBytes bytes → IsFunctionRead m d bytes rest ks
  function-read bytes rest ks e ok =
      let p = stated-parts m d (map (λ (b : Block). b.reached) g.blocks.items) bytes rest ks ok e in
      record {
        text = p.front.text;
        left = p.front.left;
        fits = stated-fits m d g ks fg p.marks_are p.fits;
        only = λ other behind is fits.
            let read = ap (stated_from m d (map (λ p. p.reached) g.blocks.items)) is ∙ fitting-read behind other fits in
            sym ((some_pair_parts ks other rest behind (sym e ∙ read)).1);
      }

-- what is read of the function at a place
pub function-at : (m m' : Module) (f : ℕ) (d : FunctionDefinition) (g : Cfg) (parts : List Block) (bytes rest : List ℕ) (ks : Stated) → m' ≡ m → parts ≡ g.blocks.items
    → length m.structs ≤ 65536 → local_count m d ≤ 64 → slice_get m.functions f ≡ Some d → IsFlowGraph d.code g
    → stated_from m' d (map (λ p. p.reached) parts) bytes ≡ Some (ks, rest) → IsReadAt m f bytes rest ks
function-at m m' f d g parts bytes rest ks em ep few small e fg h = λ d' e' ok.
    let read : stated_from m d (map (λ (p : Block). p.reached) g.blocks.items) bytes ≡ Some (ks, rest) = subst (λ z. stated_from m d (map (λ (p : Block). p.reached) z) bytes ≡ Some (ks, rest)) ep (subst (λ z. stated_from z d (map (λ (p : Block). p.reached) parts) bytes ≡ Some (ks, rest)) em h) in
    subst (λ z. IsFunctionRead m z bytes rest ks) (same_Some d d' (sym e ∙ e')) (function-read m d g few small fg bytes rest ks read ok)

-- nothing can be read of it
pub function-unread : (m m' : Module) (f : ℕ) (d : FunctionDefinition) (g : Cfg) (parts : List Block) (bytes : List ℕ) → m' ≡ m → parts ≡ g.blocks.items
    → length m.structs ≤ 65536 → local_count m d ≤ 64 → slice_get m.functions f ≡ Some d → IsFlowGraph d.code g
    → stated_from m' d (map (λ p. p.reached) parts) bytes ≡ None → IsUnreadAt m f bytes
function-unread m m' f d g parts bytes em ep few small e fg h = λ d' e' ks rest is fits.
    let none : stated_from m d (map (λ (p : Block). p.reached) g.blocks.items) bytes ≡ None = subst (λ z. stated_from m d (map (λ (p : Block). p.reached) z) bytes ≡ None) ep (subst (λ z. stated_from z d (map (λ (p : Block). p.reached) parts) bytes ≡ None) em h) in
    let here : StatedFits m d ks = subst (λ z. StatedFits m z ks) (same_Some d' d (sym e' ∙ e)) fits in
    none-some (ks, rest) (sym none ∙ ap (stated_from m d (map (λ p. p.reached) g.blocks.items)) is ∙ fitting-read m d g few small fg rest ks here)

-- one more function fits
fit-more : (m : Module) (ds : List FunctionDefinition) (cs : Certificate) (d : FunctionDefinition) (c : Stated) → AllStatedFit m ds cs → StatedFits m d c
    → AllStatedFit m (ds ++ d ∷ []) (cs ++ c ∷ [])
fit-more m [] [] d c h one = (one, tt)
fit-more m [] (x ∷ cs) d c h one = absurd h
fit-more m (y ∷ ds) [] d c h one = absurd h
fit-more m (y ∷ ds) (x ∷ cs) d c h one = (h.0, fit-more m ds cs d c h.1 one)

-- what was read of the first so many functions, and what is left of each certificate that has these bytes
pub record CertOn (m : Module) (f : ℕ) (bytes : List ℕ) (cs : Certificate) (cur : List ℕ) : Type 0 where
  pub text : bytes ≡ certificate_text cs ++ cur
  pub left : AreBytes cur
  pub fits : AllStatedFit m (take f m.functions) cs
  pub others : (c : Certificate) → IsCertificateText m bytes c → cur ≡ certificate_text (drop f c)

pub CertOn-start : (m : Module) (bytes cur : List ℕ) (cs : Certificate) → cs ≡ [] → cur ≡ bytes → AreBytes bytes → CertOn m 0 bytes cs cur
CertOn-start m bytes cur cs none same ok =
    subst (λ z. CertOn m 0 bytes z cur) (sym none) (subst (λ z. CertOn m 0 bytes [] z) (sym same) (record { text = refl; left = ok; fits = tt; others = λ c h. h.0 }))

-- the text with one more
text-more : (cs : Certificate) (c : Stated) (rest : List ℕ) → certificate_text cs ++ (flat_map stated_text c ++ rest) ≡ certificate_text (cs ++ c ∷ []) ++ rest
text-more cs c rest =
    sym (append_assoc (certificate_text cs) (flat_map stated_text c) rest)
    ∙ ap (λ z. (certificate_text cs ++ z) ++ rest) (sym (append-nil (flat_map stated_text c)))
    ∙ ap (λ z. z ++ rest) (sym (flat_map-append (flat_map stated_text) cs (c ∷ [])))

-- an element and those after it
drop-at : {A : Type 0} (xs : List A) (k : ℕ) (x : A) → slice_get xs k ≡ Some x → drop k xs ≡ x ∷ drop (k + 1) xs
drop-at [] k x at = absurd (none-some x at)
drop-at (y ∷ ys) zero x at = ap (λ z. z ∷ ys) (same_Some y x at)
drop-at (y ∷ ys) (suc k) x at = rw add-one (let h = drop-at ys k x at in rw add-one at h)

-- what a certificate states of the next function
record Next (m : Module) (f : ℕ) (cur : List ℕ) (c : Certificate) (d : FunctionDefinition) : Type 0 where
  stated : Stated
  text : cur ≡ flat_map stated_text stated ++ certificate_text (drop (f + 1) c)
  fits : StatedFits m d stated

next-of : (m : Module) (f : ℕ) (bytes cur : List ℕ) (c : Certificate) (d : FunctionDefinition) → slice_get m.functions f ≡ Some d → f < length m.functions → IsCertificateText m bytes c
    → cur ≡ certificate_text (drop f c) → Next m f cur c d
next-of m f bytes cur c d e lt h is =
    let long = fit-length m m.functions c h.1 in
    let s = element_at c f (omega arith) in
    record { stated = s.0; text = is ∙ ap certificate_text (drop-at c f s.0 s.1); fits = fit-at m m.functions c f d s.0 h.1 e s.1 }

pub CertOn-next : (m : Module) (f : ℕ) (bytes cur next : List ℕ) (cs : Certificate) (c : Stated) → f < length m.functions
    → IsReadAt m f cur next c → CertOn m f bytes cs cur → CertOn m (f + 1) bytes (cs ++ c ∷ []) next
CertOn-next m f bytes cur next cs c lt read g =
    let d = element_at m.functions f lt in
    let r = read d.0 d.1 g.left in
    let is : get_or m.functions f d.0 ≡ d.0 = get_or_from_slice_get m.functions f d.0 d.0 d.1 in
    record {
      text = g.text ∙ ap (λ z. certificate_text cs ++ z) r.text ∙ text-more cs c next;
      left = r.left;
      fits = subst (λ z. AllStatedFit m z (cs ++ c ∷ [])) (ap (λ z. take f m.functions ++ z ∷ []) (sym is) ∙ sym (take_more m.functions f d.0 lt))
          (fit-more m (take f m.functions) cs d.0 c g.fits r.fits);
      others = λ other h.
          let n = next-of m f bytes cur other d.0 d.1 lt h (g.others other h) in
          sym (r.only n.stated (certificate_text (drop (f + 1) other)) n.text n.fits);
    }

pub CertOn-end : (m : Module) (f : ℕ) (bytes cur : List ℕ) (cs : Certificate) → length m.functions ≤ f → cur ≡ [] → CertOn m f bytes cs cur
    → (bytes ≡ certificate_text cs) × AllStatedFit m m.functions cs
CertOn-end m f bytes cur cs le none g =
    (g.text ∙ ap (λ z. certificate_text cs ++ z) none ∙ append-nil (certificate_text cs), subst (λ z. AllStatedFit m z cs) (take_all f m.functions le) g.fits)

-- where a function can't be read, no certificate has these bytes
pub CertOn-unread : (m : Module) (f : ℕ) (bytes cur : List ℕ) (cs : Certificate) → f < length m.functions → IsUnreadAt m f cur → CertOn m f bytes cs cur → (c : Certificate)
    → IsCertificateText m bytes c → ⊥
CertOn-unread m f bytes cur cs lt none g c h =
    let d = element_at m.functions f lt in
    let n = next-of m f bytes cur c d.0 d.1 lt h (g.others c h) in
    none d.0 d.1 n.stated (certificate_text (drop (f + 1) c)) n.text n.fits

-- nor where bytes are left
pub CertOn-left : (m : Module) (f : ℕ) (bytes cur : List ℕ) (cs : Certificate) → length m.functions ≤ f → (cur ≡ [] → ⊥) → CertOn m f bytes cs cur → (c : Certificate) → IsCertificateText m bytes c → ⊥
CertOn-left m f bytes cur cs le some g c h =
    let long = fit-length m m.functions c h.1 in
    let none : drop f c ≡ [] = drop_all f c (omega arith) in
    some (g.others c h ∙ ap certificate_text none)
