-- Where values lie, and the labels that lead from one place to another.
use Rattle.std.specs.Prelude.{◌≡◌, ℕ, List, [], ◌∷◌, ◌++◌, ◌⊎◌}

-- a struct definition: the place of its module in the order of publication, and its index there
pub record Defined : Type 0 where
  pub place : ℕ
  pub index : ℕ

-- where a value lies: a local of a numbered frame, or a struct under an address
pub data Root : Type 0 where
  Local : ℕ → ℕ → Root
  Global : ℕ → Defined → Root

-- a root and the field positions that lead down from it
pub record Place : Type 0 where
  pub root : Root
  pub path : List ℕ

-- the first list begins the second
abbrev pub Begins : List ℕ → List ℕ → Type 0
Begins a b = (rest : List ℕ) × (b ≡ a ++ rest)

-- the place lies at or below the other
abbrev pub Below : Place → Place → Type 0
Below c p = (c.root ≡ p.root) × Begins p.path c.path

abbrev pub Overlap : Place → Place → Type 0
Overlap a b = Below a b ⊎ Below b a

-- an exact list of field positions, or such a list and any more
pub data Label : Type 0 where
  Exact : List ℕ → Label
  Open : List ℕ → Label

abbrev pub steps : Label → List ℕ
steps (Exact l) = l
steps (Open l) = l

-- the list of positions is one that the label names
abbrev pub Reach : Label → List ℕ → Type 0
Reach (Exact l) s = s ≡ l
Reach (Open l) s = Begins l s

abbrev pub Matches : Label → Place → Place → Type 0
Matches x p c = (p.root ≡ c.root) × (s : List ℕ) × (c.path ≡ p.path ++ s) × Reach x s

-- the order of labels
abbrev pub LabelBelow : Label → Label → Type 0
LabelBelow x (Exact l) = x ≡ Exact l
LabelBelow x (Open r) = Begins r (steps x)

abbrev pub extend : ℕ → Label → Label
extend f (Exact l) = Exact (l ++ f ∷ [])
extend f (Open l) = Open l

abbrev pub opened : Label → Label
opened x = Open (steps x)

-- the list is empty or begins with the position
abbrev pub AgreesWith : List ℕ → ℕ → Type 0
AgreesWith [] f = Unit {0}
AgreesWith (g ∷ l) f = g ≡ f

abbrev pub Agrees : Label → ℕ → Type 0
Agrees x f = AgreesWith (steps x) f

-- the place that the positions lead to from a place
abbrev pub under : Place → List ℕ → Place
under p s = record { root = p.root; path = p.path ++ s }

abbrev pub field_of : Place → ℕ → Place
field_of p f = under p (f ∷ [])
