-- Reading the parts of a certificate one after another.
use Rattle.mv_certificate.proofs.Common.{[], ℕ, ◌++◌, ◌+◌, ◌-◌, ◌<◌, ◌∙◌, ◌∷◌, ◌≡◌, ◌≤◌, Bool, List, None, Option, Some, ap, append-nil, arith, drop, false, get_or, length}
use Rattle.mv_certificate.proofs.Common.{map, option_map, refl, subst, suc, sym, true, true≢false, then_some, FunctionDefinition, Module, ◌>>=◌, number_from}
use Rattle.mv_certificate.proofs.Common.{ReadsOn, ReadsOn-next, counted_from, entries_from, are_ascending, Edge, Label, extended, opened, Known, Stated, block_from, edge_from, edges_from}
use Rattle.mv_certificate.proofs.Common.{label_from, openness_from, stated_from}
use Rattle.std.proofs.Common.{drop-cons}
use Rattle.std.specs.Prelude.{if◌then◌else◌}
use Rattle.std.proofs.lemmas.List.{drop-map, drop_all}
use Rattle.std.proofs.lemmas.Bool.{false_from_ne_true}
use Rattle.mv_module_text.specs.Parsing.{Read}
use Rattle.mv_module_text.proofs.Entries.{after, after-nil, after-push, ReadsOn-stops, ReadsOn-end, entries_from-stops}
use Rattle.mv_edges.proofs.Sorting.{ascending_front}

-- one of so many entries can't be read
pub ReadsOn-breaks : {A : Type 0} (each : List ℕ → Read A) (n i : ℕ) (start : List ℕ) (items : List A) (cur : List ℕ)
    → i < n → each cur ≡ None → ReadsOn each n i start items cur → entries_from each n start ≡ None
ReadsOn-breaks each n i start items cur lt none g =
    let k : n - i ≡ suc (n - (i + 1)) = omega arith in
    g.goes ∙ ap (λ z. option_map (after items) (entries_from each z cur)) k
    ∙ ap (option_map (after items)) (entries_from-stops each (n - (i + 1)) cur none)

-- all are read
pub ReadsOn-whole : {A : Type 0} (each : List ℕ → Read A) (n i : ℕ) (start : List ℕ) (items : List A) (cur : List ℕ)
    → n ≤ i → ReadsOn each n i start items cur → entries_from each n start ≡ Some (items, cur)
ReadsOn-whole each n i start items cur le g =
    let k : n - i ≡ 0 = omega arith in
    g.goes ∙ ap (λ z. option_map (after items) (entries_from each z cur)) k ∙ ap (λ z. Some (z, cur)) (append-nil items)

-- one more position is read, of an exact label
pub position-next : (n i : ℕ) (start cur next : List ℕ) (f : ℕ) (old new : Label) → i < n → number_from 31 cur ≡ Some (f, next) → new ≡ extended f old
    → ReadsOn (number_from 31) n i start old.path cur × (old.is_open ≡ false) → ReadsOn (number_from 31) n (i + 1) start new.path next × (new.is_open ≡ false)
position-next n i start cur next f old new lt e is (g, exact) =
    let longer : new.path ≡ old.path ++ f ∷ [] = ap (λ (l : Label). l.path) is ∙ ap (λ b. if b then old.path else (old.path ++ f ∷ [])) exact in
    (subst (λ z. ReadsOn (number_from 31) n (i + 1) start z next) (sym longer) (ReadsOn-next (number_from 31) n i start old.path cur next f lt e g), ap (λ (l : Label). l.is_open) is ∙ exact)

-- a label of positions
abbrev of : List ℕ → Bool → Label
of path is_open = record { path = path; is_open = is_open }

-- a label at the front, after its positions
abbrev with_openness : List ℕ → Read Bool → Read Label
with_openness path found = found >>= λ is_open. Some (of path is_open.0, is_open.1)

label-at : (n i : ℕ) (bytes start path cur : List ℕ) → number_from 8 bytes ≡ Some (n, start) → n ≤ i → ReadsOn (number_from 31) n i start path cur
    → label_from bytes ≡ with_openness path (openness_from cur)
label-at n i bytes start path cur e le g = ap (λ r. r >>= λ p. with_openness p.0 (openness_from p.1)) (ReadsOn-end (number_from 31) 8 n i bytes start path cur e le g)

-- one of its positions can't be read
pub label-stops : (n i : ℕ) (bytes start path cur : List ℕ) → number_from 8 bytes ≡ Some (n, start) → i < n → number_from 31 cur ≡ None → ReadsOn (number_from 31) n i start path cur
    → label_from bytes ≡ None
label-stops n i bytes start path cur e lt none g =
    ap (λ r. r >>= λ p. with_openness p.0 (openness_from p.1)) (ReadsOn-stops (number_from 31) 8 n i bytes start path cur e lt none g)

-- whether it is open can't be read
pub label-unread : (n i : ℕ) (bytes start path cur : List ℕ) → number_from 8 bytes ≡ Some (n, start) → n ≤ i → openness_from cur ≡ None → ReadsOn (number_from 31) n i start path cur
    → label_from bytes ≡ None
label-unread n i bytes start path cur e le none g = label-at n i bytes start path cur e le g ∙ ap (with_openness path) none

-- it is open
pub label-open : (n i : ℕ) (bytes start cur next : List ℕ) (exact new : Label) (b : Bool) → number_from 8 bytes ≡ Some (n, start) → n ≤ i → openness_from cur ≡ Some (b, next) → b ≡ true
    → new ≡ opened exact → ReadsOn (number_from 31) n i start exact.path cur → label_from bytes ≡ Some (new, next)
label-open n i bytes start cur next exact new b e le read is_true is g =
    label-at n i bytes start exact.path cur e le g ∙ ap (with_openness exact.path) read ∙ ap (λ z. Some (of exact.path z, next)) is_true ∙ ap (λ (l : Label). Some (l, next)) (sym is)

-- it is exact
pub label-exact : (n i : ℕ) (bytes start cur next : List ℕ) (exact : Label) (b : Bool) → number_from 8 bytes ≡ Some (n, start) → n ≤ i → openness_from cur ≡ Some (b, next) → b ≡ false
    → ReadsOn (number_from 31) n i start exact.path cur × (exact.is_open ≡ false) → label_from bytes ≡ Some (exact, next)
label-exact n i bytes start cur next exact b e le read is_false (g, closed) =
    label-at n i bytes start exact.path cur e le g ∙ ap (with_openness exact.path) read ∙ ap (λ z. Some (of exact.path z, next)) (is_false ∙ sym closed)

not_ascending : (xs ys : List Edge) → are_ascending xs ≡ false → are_ascending (xs ++ ys) ≡ false
not_ascending xs ys h = false_from_ne_true (are_ascending (xs ++ ys)) (λ t. true≢false (sym (ascending_front xs ys t) ∙ h))

-- edges of which the first don't ascend
test_fails : (items : List Edge) (o : Read (List Edge)) → are_ascending items ≡ false
    → (option_map (after items) o >>= λ es. then_some (are_ascending es.0) es) ≡ None
test_fails items None h = refl
test_fails items (Some r) h = rw (not_ascending items r.0 h) refl

-- the edges after a count
counted_at : {A : Type 0} (each : List ℕ → Read A) (n : ℕ) (bytes start : List ℕ) → number_from 1024 bytes ≡ Some (n, start)
    → counted_from 1024 each bytes ≡ entries_from each n start
counted_at each n bytes start e = ap (λ r. r >>= λ c. entries_from each c.0 c.1) e

-- an edge is out of order
pub edges-fail : (m : Module) (d : FunctionDefinition) (n i : ℕ) (bytes start : List ℕ) (items : List Edge) (cur : List ℕ)
    → number_from 1024 bytes ≡ Some (n, start) → ReadsOn (edge_from m d) n i start items cur → are_ascending items ≡ false → edges_from m d bytes ≡ None
edges-fail m d n i bytes start items cur e g h =
    ap (λ r. r >>= λ es. then_some (are_ascending es.0) es) (counted_at (edge_from m d) n bytes start e ∙ g.goes)
    ∙ test_fails items (entries_from (edge_from m d) (n - i) cur) h

-- an edge can't be read
pub edges-break : (m : Module) (d : FunctionDefinition) (n i : ℕ) (bytes start : List ℕ) (items : List Edge) (cur : List ℕ)
    → number_from 1024 bytes ≡ Some (n, start) → i < n → edge_from m d cur ≡ None → ReadsOn (edge_from m d) n i start items cur → edges_from m d bytes ≡ None
edges-break m d n i bytes start items cur e lt none g =
    ap (λ r. r >>= λ es. then_some (are_ascending es.0) es) (counted_at (edge_from m d) n bytes start e ∙ ReadsOn-breaks (edge_from m d) n i start items cur lt none g)

-- all edges are read
pub edges-end : (m : Module) (d : FunctionDefinition) (n i : ℕ) (bytes start : List ℕ) (items : List Edge) (cur : List ℕ)
    → number_from 1024 bytes ≡ Some (n, start) → n ≤ i → ReadsOn (edge_from m d) n i start items cur → are_ascending items ≡ true
    → edges_from m d bytes ≡ Some (items, cur)
edges-end m d n i bytes start items cur e le g h =
    ap (λ r. r >>= λ es. then_some (are_ascending es.0) es) (ReadsOn-end (edge_from m d) 1024 n i bytes start items cur e le g)
    ∙ ap (λ b. then_some b (items, cur)) h

-- what was read of the first i blocks
pub record StatedOn (m : Module) (d : FunctionDefinition) (marks : List Bool) (i : ℕ) (start : List ℕ) (items : Stated) (cur : List ℕ) : Type 0 where
  pub goes : stated_from m d marks start ≡ option_map (after items) (stated_from m d (drop i marks) cur)

-- none are read yet
pub StatedOn-start : (m : Module) (d : FunctionDefinition) (marks : List Bool) (start : List ℕ) → StatedOn m d marks 0 start [] start
StatedOn-start m d marks start = record { goes = after-nil (stated_from m d marks start) }

-- what reading the next gives
stated-next : (m : Module) (d : FunctionDefinition) (b : Bool) (marks : List Bool) (cur next : List ℕ) (x : Option Known) → block_from m d b cur ≡ Some (x, next)
    → stated_from m d (b ∷ marks) cur ≡ (stated_from m d marks next >>= λ xs. Some (x ∷ xs.0, xs.1))
stated-next m d b marks cur next x e = ap (λ r. r >>= λ first. stated_from m d marks first.1 >>= λ more. Some (first.0 ∷ more.0, more.1)) e

-- the marks from a place on
marks_at : {A : Type 0} (f : A → Bool) (xs : List A) (i : ℕ) (x : A) → i < length xs → x ≡ get_or xs i x → drop i (map f xs) ≡ f x ∷ drop (i + 1) (map f xs)
marks_at f xs i x lt is =
    let one : i + 1 ≡ suc i = omega arith in
    drop-map f i xs ∙ ap (map f) (drop-cons xs i x lt) ∙ ap (λ z. f z ∷ map f (drop (suc i) xs)) (sym is)
    ∙ ap (λ z. f x ∷ z) (sym (drop-map f (suc i) xs)) ∙ ap (λ z. f x ∷ drop z (map f xs)) (sym one)

-- one more is read
pub StatedOn-next : {A : Type 0} (f : A → Bool) (blocks : List A) (b : A) (m : Module) (d : FunctionDefinition) (i : ℕ) (start : List ℕ) (items : Stated) (cur next : List ℕ) (x : Option Known)
    → i < length blocks → b ≡ get_or blocks i b → block_from m d (f b) cur ≡ Some (x, next)
    → StatedOn m d (map f blocks) i start items cur → StatedOn m d (map f blocks) (i + 1) start (items ++ x ∷ []) next
StatedOn-next f blocks b m d i start items cur next x lt is e g = record {
  goes = g.goes ∙ ap (λ z. option_map (after items) (stated_from m d z cur)) (marks_at f blocks i b lt is)
      ∙ ap (option_map (after items)) (stated-next m d (f b) (drop (i + 1) (map f blocks)) cur next x e)
      ∙ after-push items x (stated_from m d (drop (i + 1) (map f blocks)) next);
}

-- all are read
pub StatedOn-end : (m : Module) (d : FunctionDefinition) (marks : List Bool) (i : ℕ) (start : List ℕ) (items : Stated) (cur : List ℕ)
    → length marks ≤ i → StatedOn m d marks i start items cur → stated_from m d marks start ≡ Some (items, cur)
StatedOn-end m d marks i start items cur le g =
    g.goes ∙ ap (λ z. option_map (after items) (stated_from m d z cur)) (drop_all i marks le) ∙ ap (λ z. Some (z, cur)) (append-nil items)

-- what reading nothing gives
stated-none : (m : Module) (d : FunctionDefinition) (b : Bool) (marks : List Bool) (cur : List ℕ) → block_from m d b cur ≡ None → stated_from m d (b ∷ marks) cur ≡ None
stated-none m d b marks cur e = ap (λ r. r >>= λ first. stated_from m d marks first.1 >>= λ more. Some (first.0 ∷ more.0, more.1)) e

-- one can't be read
pub StatedOn-breaks : {A : Type 0} (f : A → Bool) (blocks : List A) (b : A) (m : Module) (d : FunctionDefinition) (i : ℕ) (start : List ℕ) (items : Stated) (cur : List ℕ)
    → i < length blocks → b ≡ get_or blocks i b → block_from m d (f b) cur ≡ None
    → StatedOn m d (map f blocks) i start items cur → stated_from m d (map f blocks) start ≡ None
StatedOn-breaks f blocks b m d i start items cur lt is none g =
    g.goes ∙ ap (λ z. option_map (after items) (stated_from m d z cur)) (marks_at f blocks i b lt is)
    ∙ ap (option_map (after items)) (stated-none m d (f b) (drop (i + 1) (map f blocks)) cur none)
