-- What is made of a list is made of its parts.
use Rattle.mv_edges.proofs.Common.{[], ◌++◌, ◌∙◌, ◌∷◌, ◌≡◌, Bool, List, ap, cond, false, filter, flat_map, map, refl, sym, true, and_parts}
use Rattle.mv_edges.proofs.Common.{map-append, list_all, Node, Edge, Label, inherited, into, same_node}
use Rattle.std.proofs.lemmas.List.Elements.{filter-append}

-- what is made of a list is made of its parts
pub record IsPiecewise (k : List Edge → List Edge) : Type 0 where
  pub none : k [] ≡ []
  pub joined : (xs ys : List Edge) → k (xs ++ ys) ≡ k xs ++ k ys

pub filter_piecewise : (p : Edge → Bool) → IsPiecewise (filter p)
filter_piecewise p = record { none = refl; joined = filter-append p }

pub map_piecewise : (h : Edge → Edge) → IsPiecewise (map h)
map_piecewise h = record { none = refl; joined = map-append h }

pub inherited_piecewise : (h : Label → Label) (old new : Node) → IsPiecewise (inherited h old new)
inherited_piecewise h old new =
    record {
      none = refl;
      joined = λ xs ys.
          ap (map inherits) (filter-append (λ e. same_node e.to old) xs ys)
          ∙ map-append inherits (into old xs) (into old ys);
    }
  where
    inherits : Edge → Edge
    inherits e = record { from = e.from; label = h e.label; to = new }

pub flat_map_alike : {X : Type 0} (f g : X → List Edge) → ((x : X) → f x ≡ g x) → (xs : List X) → flat_map f xs ≡ flat_map g xs
flat_map_alike f g h [] = refl
flat_map_alike f g h (x ∷ xs) = ap (λ ys. ys ++ flat_map f xs) (h x) ∙ ap (λ ys. g x ++ ys) (flat_map_alike f g h xs)

pub flat_map_nothing : {X : Type 0} (f : X → List Edge) → ((x : X) → f x ≡ []) → (xs : List X) → flat_map f xs ≡ []
flat_map_nothing f h [] = refl
flat_map_nothing f h (x ∷ xs) = ap (λ ys. ys ++ flat_map f xs) (h x) ∙ flat_map_nothing f h xs

pub flat_map-filter : {X : Type 0} (p : X → Bool) (f : X → List Edge) (xs : List X) → flat_map f (filter p xs) ≡ flat_map (λ x. cond (p x) (f x) []) xs
flat_map-filter p f [] = refl
flat_map-filter {X} p f (x ∷ xs) = by_case (p x) (flat_map-filter p f xs)
  where
    by_case : (b : Bool) → flat_map f (filter p xs) ≡ flat_map (λ y. cond (p y) (f y) []) xs
        → flat_map f (cond b (x ∷ filter p xs) (filter p xs)) ≡ cond b (f x) [] ++ flat_map (λ y. cond (p y) (f y) []) xs
    by_case true h = ap (λ ys. f x ++ ys) h
    by_case false h = h

-- of elements that pass a test
pub flat_map_passing : {X : Type 0} (p : X → Bool) (f g : X → List Edge) → ((x : X) → p x ≡ true → f x ≡ g x) → (xs : List X) → list_all p xs ≡ true → flat_map f xs ≡ flat_map g xs
flat_map_passing p f g h [] all = refl
flat_map_passing p f g h (x ∷ xs) all =
    let parts = and_parts (p x) (list_all p xs) all in
    ap (λ ys. ys ++ flat_map f xs) (h x parts.0) ∙ ap (λ ys. g x ++ ys) (flat_map_passing p f g h xs parts.1)

module _ (k : List Edge → List Edge) (o : IsPiecewise k) where
  pub through : {X : Type 0} (f g : X → List Edge) → ((x : X) → g x ≡ k (f x)) → (xs : List X) → flat_map g xs ≡ k (flat_map f xs)
  through f g h [] = sym o.none
  through f g h (x ∷ xs) =
      ap (λ ys. ys ++ flat_map g xs) (h x)
      ∙ ap (λ ys. k (f x) ++ ys) (through f g h xs)
      ∙ sym (o.joined (f x) (flat_map f xs))
