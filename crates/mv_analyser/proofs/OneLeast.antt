-- Two least certificates state the same.
use Rattle.std.proofs.Common.{◌≡◌, ℕ, suc, true, false, List, [], ◌∷◌, length, map, drop, get_or, Option, Some, None, is_some, slice_get, IsTrue, refl, sym, ap, ◌∙◌, arith, true≢false}
use Rattle.std.proofs.lemmas.Bool.{and_parts, false≢true}
use Rattle.std.proofs.lemmas.Option.{slice_get_within}
use Rattle.mv_move_types.specs.declared.borrow.Availability.{Availability}
use Rattle.mv_move_types.specs.declared.borrow.Availability.TheVariants.{Unavailable, Available, Maybe}
use Rattle.mv_move_types.specs.Module.{Module}
use Rattle.mv_lattice.specs.Flow.{IsFlowBelow}
use Rattle.mv_certificate_rules.specs.LocalsRules.{availability_leq, locals_leq}
use Rattle.mv_certificate.proofs.OneCertificate.{one-marks}
use Rattle.mv_certificate_rules.specs.Certificate.{Stated, Certificate, locals_hold, edges_hold, all_locals_hold, all_edges_hold}
use Rattle.mv_certificate.specs.Functions.{LocalsHoldAt, EdgesHoldAt}
use Rattle.mv_certificate.specs.Reads.{FitsAt}
use Rattle.mv_certificate.proofs.States.{fit-at, fit-length}
use Rattle.mv_certificate.proofs.Holds.{passes-each}
use Rattle.mv_analyser.specs.Least.{stated_locals, IsPrincipal, LeastIsOne}
use Rattle.mv_bound_rules.proofs.Entries.{element_at}

-- ---- availabilities that are below each other are the same

one_availability : (a b : Availability) → IsTrue (availability_leq a b) → IsTrue (availability_leq b a) → a ≡ b
one_availability Unavailable Unavailable h g = refl
one_availability Unavailable Available h g = absurd (false≢true h)
one_availability Unavailable Maybe h g = absurd (false≢true g)
one_availability Available Unavailable h g = absurd (false≢true h)
one_availability Available Available h g = refl
one_availability Available Maybe h g = absurd (false≢true g)
one_availability Maybe Unavailable h g = absurd (false≢true h)
one_availability Maybe Available h g = absurd (false≢true h)
one_availability Maybe Maybe h g = refl

one_of_locals : (a b : List Availability) → IsTrue (locals_leq a b) → IsTrue (locals_leq b a) → a ≡ b
one_of_locals [] [] h g = refl
one_of_locals [] (y ∷ b) h g = absurd (false≢true h)
one_of_locals (x ∷ a) [] h g = absurd (false≢true h)
one_of_locals (x ∷ a) (y ∷ b) h g =
    let p = and_parts (availability_leq x y) (locals_leq a b) h in
    let q = and_parts (availability_leq y x) (locals_leq b a) g in
    ap (λ z. z ∷ a) (one_availability x y p.0 q.0) ∙ ap (λ r. y ∷ r) (one_of_locals a b p.1 q.1)

abbrev Below : List (Option (List Availability)) → List (Option (List Availability)) → Type 0
Below low high = IsFlowBelow (λ a b. IsTrue (locals_leq a b)) low high

one_flow : (a b : List (Option (List Availability))) → map is_some a ≡ map is_some b → Below a b → Below b a → a ≡ b
one_flow [] [] marks low high = refl
one_flow [] (y ∷ b) marks low high = let long = ap length marks in absurd (omega (arith, long))
one_flow (x ∷ a) [] marks low high = let long = ap length marks in absurd (omega (arith, long))
one_flow (None ∷ a) (None ∷ b) marks low high = ap (λ r. None ∷ r) (one_flow a b (ap (drop 1) marks) (λ k s u e g. low (suc k) s u e g) (λ k s u e g. high (suc k) s u e g))
one_flow (None ∷ a) (Some u ∷ b) marks low high = absurd (false≢true (ap (λ xs. get_or xs 0 true) marks))
one_flow (Some s ∷ a) (None ∷ b) marks low high = absurd (true≢false (ap (λ xs. get_or xs 0 true) marks))
one_flow (Some s ∷ a) (Some u ∷ b) marks low high =
    ap (λ z. Some z ∷ a) (one_of_locals s u (low 0 s u refl refl) (high 0 u s refl refl))
    ∙ ap (λ r. Some u ∷ r) (one_flow a b (ap (drop 1) marks) (λ k s u e g. low (suc k) s u e g) (λ k s u e g. high (suc k) s u e g))

-- ---- what fits one function has the same marks

locals_marks : (ks : Stated) → map is_some (stated_locals ks) ≡ map is_some ks
locals_marks [] = refl
locals_marks (None ∷ ks) = ap (λ r. false ∷ r) (locals_marks ks)
locals_marks (Some k ∷ ks) = ap (λ r. true ∷ r) (locals_marks ks)

-- ---- of a function at a place

module _ (m : Module) (c : Certificate) (p : IsPrincipal m c) (f : ℕ) (a : Stated) (at : slice_get c f ≡ Some a) where
  fits_there : FitsAt m f a
  fits_there d e = fit-at m m.functions c f d a p.shape e at

  locals_there : LocalsHoldAt m f a
  locals_there d e = passes-each (locals_hold m) m.functions c (and_parts (all_locals_hold m c) (all_edges_hold m c) p.holds).0 f d a e at

  edges_there : EdgesHoldAt m f a
  edges_there d e = passes-each (edges_hold m) m.functions c (and_parts (all_locals_hold m c) (all_edges_hold m c) p.holds).1 f d a e at

pub least_is_one : LeastIsOne
least_is_one m c other p q f a b at bt =
    let d = element_at m.functions f (omega (arith, slice_get_within c f a at, fit-length m m.functions c p.shape)) in
    let marks : map is_some (stated_locals a) ≡ map is_some (stated_locals b) =
    locals_marks a ∙ one-marks m d.0 a b (fits_there m c p f a at d.0 d.1) (fits_there m other q f b bt d.0 d.1) ∙ sym (locals_marks b) in
    let low = p.least f a at in
    let high = q.least f b bt in
    record {
      locals = one_flow (stated_locals a) (stated_locals b) marks (low.0 b (fits_there m other q f b bt) (locals_there m other q f b bt)) (high.0 a (fits_there m c p f a at) (locals_there m c p f a at));
      below = low.1 b (fits_there m other q f b bt) (edges_there m other q f b bt);
      above = high.1 a (fits_there m c p f a at) (edges_there m c p f a at);
    }
