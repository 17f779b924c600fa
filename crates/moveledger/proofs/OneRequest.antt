-- A payload of a kind asks one thing.
use Rattle.std.proofs.Common.{◌≡◌, ℕ, ◌^◌, Bool, List, [], ◌∷◌, ◌++◌, length, arith, refl, sym, ap, ap₂, ◌∙◌, append_assoc, append-nil, IsTrue, ◌&&◌, nat_le, nat_lt}
use Rattle.std.specs.List.{AllByRecursion, list_all}
use Rattle.std.specs.Cmp.{first_so, second_so}
use Rattle.std.proofs.lemmas.Bool.{false≢true}
use Rattle.mv_uleb.specs.Uleb.{uleb}
use Rattle.mv_module_text.specs.Entries.{address_text, counted, identifier_text}
use Rattle.mv_module_text.specs.Fits.{address_fits, identifier_fits}
use Rattle.mv_module_text.specs.Parsing.{identifier_from, address_from}
use Rattle.mv_module_text.proofs.Handles.{identifier-whole}
use Rattle.mv_module_text.proofs.Addresses.{address-whole}
use Rattle.mv_machine.specs.Value.{Leaf, Struct, Ref}
use Rattle.mv_machine.specs.Ledger.{Offer, RunRequest, Request, Publish, Run, Show, Audit, BadRun, Bad, Format, AsText, AsJson}
use Rattle.mv_machine.specs.Arguments.{arg_value}
use Rattle.mv_ledger_state.specs.RecordText.{offer_text, offer_fits, publish_text, publish_fits, run_text, run_fits, argument_text, argument_fits, format_text, IsShaped, Asks}
use Rattle.mv_ledger_state.specs.Payloads.{argument_from}
use Rattle.mv_ledger_state.proofs.ShapesOfArguments.{arg_text, arg_fits, argument-whole}
use Rattle.mv_saved_text.proofs.SavedOnce.{IsOneOn, whole-one, uleb-one, counted-one, offers-one}

-- ---- parts

address-one : IsOneOn (λ a. IsTrue (address_fits a)) address_text
address-one v w x y p q e = whole-one address_from address_text address_fits address-whole v w x y p q e

identifier-one : IsOneOn (λ name. IsTrue (identifier_fits name)) identifier_text
identifier-one v w x y p q e = whole-one identifier_from identifier_text identifier_fits identifier-whole v w x y p q e

argument-one : IsOneOn (λ v. IsTrue (argument_fits v)) argument_text
argument-one (Leaf k m) (Leaf j n) x y p q e =
    let one = whole-one argument_from arg_text arg_fits argument-whole (record { kind = k; number = m }) (record { kind = j; number = n }) x y p q e in
    (ap arg_value one.0, one.1)
argument-one (Leaf k m) (Struct s fs) x y p q e = absurd (false≢true q)
argument-one (Leaf k m) (Ref r) x y p q e = absurd (false≢true q)
argument-one (Struct s fs) w x y p q e = absurd (false≢true p)
argument-one (Ref r) w x y p q e = absurd (false≢true p)

each_fits : {A : Type 0} (fits : A → Bool) (vs : List A) → IsTrue (list_all fits vs) → AllByRecursion (λ v. IsTrue (fits v)) vs
each_fits fits [] h = tt
each_fits fits (v ∷ vs) h = (first_so (fits v) (list_all fits vs) h, each_fits fits vs (second_so (fits v) (list_all fits vs) h))

-- the last part has nothing after it
last : (a b : List ℕ) → a ≡ b → a ++ [] ≡ b ++ []
last a b e = append-nil a ∙ e ∙ sym (append-nil b)

-- ---- bundles

-- what is offered in a bundle is within its limits
pub offers_fit : (sender : ℕ) (offers : List Offer) → IsTrue (publish_fits sender offers) → IsTrue (list_all offer_fits offers)
offers_fit sender offers h = second_so (address_fits sender && nat_le 1 (length offers) && nat_le (length offers) 16) (list_all offer_fits offers) h

sender_fits : (sender : ℕ) (offers : List Offer) → IsTrue (publish_fits sender offers) → IsTrue (address_fits sender)
sender_fits sender offers h =
    first_so (address_fits sender) (nat_le 1 (length offers))
    (first_so (address_fits sender && nat_le 1 (length offers)) (nat_le (length offers) 16)
    (first_so (address_fits sender && nat_le 1 (length offers) && nat_le (length offers) 16) (list_all offer_fits offers) h))

-- one sender and one bundle
pub publish-one : (s t : ℕ) (os qs : List Offer) → publish_text s os ≡ publish_text t qs → IsTrue (publish_fits s os) → IsTrue (publish_fits t qs) → (s ≡ t) × (os ≡ qs)
publish-one s t os qs e p q =
    let a = address-one s t (counted offer_text os) (counted offer_text qs) (sender_fits s os p) (sender_fits t qs q) e in
    let b = offers-one os qs [] [] (last (counted offer_text os) (counted offer_text qs) a.1) in
    (a.0, b.0)

-- ---- runs

-- the parts of a run that are told by their limits
record RunParts (r : RunRequest) : Type 0 where
  sender : IsTrue (address_fits r.sender)
  address : IsTrue (address_fits r.home.address)
  name : IsTrue (identifier_fits r.home.name)
  function : IsTrue (identifier_fits r.function)
  arguments : AllByRecursion (λ v. IsTrue (argument_fits v)) r.arguments

run_parts : (r : RunRequest) → IsTrue (run_fits r) → RunParts r
run_parts r h =
    let a : Bool = address_fits r.sender in
    let b : Bool = address_fits r.home.address in
    let c : Bool = identifier_fits r.home.name in
    let d : Bool = identifier_fits r.function in
    let e : Bool = nat_lt r.budget (2 ^ 64) in
    let f : Bool = nat_le (length r.arguments) 16 in
    let g : Bool = list_all argument_fits r.arguments in
    let four : IsTrue (a && b && c && d) = first_so (a && b && c && d) e (first_so (a && b && c && d && e) f (first_so (a && b && c && d && e && f) g h)) in
    let three : IsTrue (a && b && c) = first_so (a && b && c) d four in
    let two : IsTrue (a && b) = first_so (a && b) c three in
    record {
      sender = first_so a b two;
      address = second_so a b two;
      name = second_so (a && b) c three;
      function = second_so (a && b && c) d four;
      arguments = each_fits argument_fits r.arguments (second_so (a && b && c && d && e && f) g h);
    }

-- six parts
six : (a b c d e f : List ℕ) → a ++ b ++ c ++ d ++ e ++ f ≡ a ++ (b ++ (c ++ (d ++ (e ++ f))))
six a b c d e f = simp append_assoc

-- one run
run-one : (r q : RunRequest) → run_text r ≡ run_text q → IsTrue (run_fits r) → IsTrue (run_fits q) → r ≡ q
run-one r q e p s =
    let own = run_parts r p in
    let its = run_parts q s in
    let r5 : List ℕ = counted argument_text r.arguments in
    let r4 : List ℕ = uleb r.budget ++ r5 in
    let r3 : List ℕ = identifier_text r.function ++ r4 in
    let r2 : List ℕ = identifier_text r.home.name ++ r3 in
    let r1 : List ℕ = address_text r.home.address ++ r2 in
    let q5 : List ℕ = counted argument_text q.arguments in
    let q4 : List ℕ = uleb q.budget ++ q5 in
    let q3 : List ℕ = identifier_text q.function ++ q4 in
    let q2 : List ℕ = identifier_text q.home.name ++ q3 in
    let q1 : List ℕ = address_text q.home.address ++ q2 in
    let turned : address_text r.sender ++ r1 ≡ address_text q.sender ++ q1 =
    sym (six (address_text r.sender) (address_text r.home.address) (identifier_text r.home.name) (identifier_text r.function) (uleb r.budget) r5)
    ∙ e ∙ six (address_text q.sender) (address_text q.home.address) (identifier_text q.home.name) (identifier_text q.function) (uleb q.budget) q5 in
    let a = address-one r.sender q.sender r1 q1 own.sender its.sender turned in
    let b = address-one r.home.address q.home.address r2 q2 own.address its.address a.1 in
    let c = identifier-one r.home.name q.home.name r3 q3 own.name its.name b.1 in
    let d = identifier-one r.function q.function r4 q4 own.function its.function c.1 in
    let n = uleb-one r.budget q.budget r5 q5 d.1 in
    let f = counted-one (λ v. IsTrue (argument_fits v)) argument_text argument-one r.arguments q.arguments [] [] own.arguments its.arguments (last r5 q5 n.1) in
    λ i. record { sender = a.0 i; home = record { address = b.0 i; name = c.0 i }; function = d.0 i; budget = n.0 i; arguments = f.0 i }

-- ---- what is asked

format-one : (f g : Format) → format_text f ≡ format_text g → f ≡ g
format-one AsText AsText e = refl
format-one AsText AsJson e = cc
format-one AsJson AsText e = cc
format-one AsJson AsJson e = refl

shaped-one : (kind : ℕ) (payload : List ℕ) (r q : Request) → IsShaped kind payload r → IsShaped kind payload q → r ≡ q
shaped-one kind payload (Publish s os) (Publish t qs) a b =
    let one = publish-one s t os qs (sym a.1 ∙ b.1) a.2 b.2 in ap₂ Publish one.0 one.1
shaped-one kind payload (Run r) (Run q) a b = ap Run (run-one r q (sym a.1 ∙ b.1) a.2 b.2)
shaped-one kind payload (Show f) (Show g) a b = ap Show (format-one f g (sym a.1 ∙ b.1))
shaped-one kind payload (Audit f) (Audit g) a b = ap Audit (format-one f g (sym a.1 ∙ b.1))
shaped-one kind payload BadRun q a b = absurd a
shaped-one kind payload Bad q a b = absurd a
shaped-one kind payload r BadRun a b = absurd b
shaped-one kind payload r Bad a b = absurd b
shaped-one kind payload r q a b = absurd (omega (arith, a.0, b.0))

pub asks-one : (kind : ℕ) (payload : List ℕ) (r q : Request) → Asks kind payload r → Asks kind payload q → r ≡ q
asks-one kind payload BadRun BadRun a b = refl
asks-one kind payload BadRun Bad a b = absurd (b.0 a.0)
asks-one kind payload Bad BadRun a b = absurd (a.0 b.0)
asks-one kind payload Bad Bad a b = refl
asks-one kind payload BadRun q a b = absurd (a.1 q b)
asks-one kind payload Bad q a b = absurd (a.1 q b)
asks-one kind payload r BadRun a b = absurd (b.1 r a)
asks-one kind payload r Bad a b = absurd (b.1 r a)
asks-one kind payload r q a b = shaped-one kind payload r q a b
