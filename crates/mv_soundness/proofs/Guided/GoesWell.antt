-- What rules look up and compute goes well: it gives a value, or fails otherwise than by what is lost or frozen.
use Rattle.mv_soundness.proofs.Guided.Common.{◌≡◌, ℕ, Some, slice_get, List, true, false, Bool, Ok, cond, Err, ok_or, Module, Token, Plain, ReferenceTo, MutableReferenceTo, ValueType, OfLeaf, OfStruct}
use Rattle.mv_soundness.proofs.Guided.Common.{local_tag, constant_value, Here, operand, as_boolean, Failure, Faults, TypeFault, entry, tag_named, value_type_tag, Value}
use Rattle.mv_move_types.specs.{declared.token.Width.Width, Numbers.leaf_number}
use Rattle.mv_machine.specs.{Numbers.Operator, StepReferences.freeze, StepReferences.own_field, StepGlobals.keyed_struct, StepStructs.own_struct, StepControl.callee, StepControl.said_by, StepControl.found_by, StepControl.call}
use Rattle.mv_machine.specs.{StepControl.signature_tags, StepLocals.held, Typing.has_tag}
use Rattle.mv_machine.specs.StepNumbers.{binary, comparison, shift, cast, logic, negation}
use Rattle.mv_soundness.proofs.Guided.Ends.{Goes_well, after, tests, found-well, operand-well, operands-well, number-well, boolean-well, reference-well, each-well}

-- how parts go well, one after the other
pub ruleset parts_well = (after, tests, found-well, operand-well, operands-well, number-well, boolean-well, reference-well, each-well)

-- ---- look-ups of types and structs

pub type-well : (modules : List Module) (m : Module) (t : ValueType) → Goes_well (value_type_tag modules m t)
type-well modules m (OfLeaf kind) = tt
type-well modules m (OfStruct i) = search parts_well depth 20

pub tag-well : (modules : List Module) (m : Module) (t : Token) → Goes_well (tag_named modules m t)
tag-well modules m (Plain t) = type-well modules m t
tag-well modules m (ReferenceTo t) = after _ (value_type_tag modules m t) _ (type-well modules m t) (λ tag e. tt)
tag-well modules m (MutableReferenceTo t) = after _ (value_type_tag modules m t) _ (type-well modules m t) (λ tag e. tt)

pub own-struct-well : (h : Here) (i : ℕ) → Goes_well (own_struct h i)
unfolding own_struct
own-struct-well h i = search parts_well depth 20

pub keyed-well : (h : Here) (i : ℕ) → Goes_well (keyed_struct h i)
unfolding keyed_struct
keyed-well h i = after _ (own_struct h i) _ (own-struct-well h i) (λ struct e1. tests _ struct.abilities.key (Faults TypeFault) _ tt (λ ok. tt))

pub own-field-well : (h : Here) (i : ℕ) → Goes_well (own_field h i)
unfolding own_field
own-field-well h i = search (parts_well, own-struct-well) depth 20

pub local-tag-well : (h : Here) (l : ℕ) → Goes_well (local_tag h l)
local-tag-well h l = search (parts_well, tag-well) depth 20

-- a local that is there is held, if it is of its type
pub held-well : (h : Here) (l : ℕ) (v : Value) → slice_get h.state.top.locals l ≡ Some (Some v) → Goes_well (held h l)
unfolding held
held-well h l v e = rw e (after _ (local_tag h l) _ (local-tag-well h l) (λ tag tag_is. tests _ (has_tag h.state v tag) (Faults TypeFault) _ tt (λ typed. tt)))

pub signature-well : (modules : List Module) (m : Module) (i : ℕ) → Goes_well (signature_tags modules m i)
unfolding signature_tags
signature-well modules m i = after _ (entry m.signatures i) _ (found-well _ _ tt) (λ ts e1. each-well (tag_named modules m) ts (tag-well modules m))

-- ---- numbers

pub choice-well : (b : Bool) (n : ℕ) (e : Failure) → Goes_well {A = ℕ} (Err e) → Goes_well {A = ℕ} (cond b (Ok n) (Err e))
choice-well true n e h = tt
choice-well false n e h = h

pub other-well : (b : Bool) (n : ℕ) (e : Failure) → Goes_well {A = ℕ} (Err e) → Goes_well {A = ℕ} (cond b (Err e) (Ok n))
other-well true n e h = h
other-well false n e h = tt

pub binary-well : (f : Operator) → ((w : Width) (x y : ℕ) → Goes_well (f w x y)) → (s : List Value) → Goes_well (binary f s)
unfolding binary
binary-well f ok s = search parts_well depth 20

pub comparison-well : (test : ℕ → ℕ → Bool) (s : List Value) → Goes_well (comparison test s)
unfolding comparison
comparison-well test s = search parts_well depth 20

pub shift-well : (f : Operator) → ((w : Width) (x y : ℕ) → Goes_well (f w x y)) → (s : List Value) → Goes_well (shift f s)
unfolding shift
shift-well f ok s = search parts_well depth 20

pub cast-well : (w : Width) (s : List Value) → Goes_well (cast w s)
unfolding cast
cast-well w s = search (parts_well, choice-well) depth 20

pub logic-well : (f : Bool → Bool → Bool) (s : List Value) → Goes_well (logic f s)
unfolding logic
logic-well f s = search parts_well depth 20

pub negation-well : (s : List Value) → Goes_well (negation s)
unfolding negation
negation-well s = after _ (operand s) _ (operand-well s) (λ top e1. after _ (as_boolean top.0) _ (boolean-well top.0) (λ x e2. tt))

pub freeze-well : (h : Here) (s : List Value) → Goes_well (freeze h s)
unfolding freeze
freeze-well h s = search parts_well depth 20

pub constant-well : (t : Token) (bytes : List ℕ) → Goes_well (constant_value t bytes)
constant-well (Plain (OfLeaf kind)) bytes = after _ (ok_or (leaf_number kind bytes) (Faults TypeFault)) _ (found-well _ _ tt) (λ n e. tt)
constant-well t bytes = tt

pub callee-well : (h : Here) (i : ℕ) → Goes_well (callee h i)
unfolding callee said_by found_by
callee-well h i = search (parts_well, signature-well) depth 40

pub call-well : (h : Here) (i : ℕ) → Goes_well (call h i)
unfolding call
call-well h i = search (parts_well, callee-well) depth 20
