-- The module that a handle names, by the parts that it is read from.
use Rattle.mv_interface.proofs.Common.{ℕ, ◌∙◌, ◌≡◌, IsItemAt, List, Module, ModuleHandle, None, Option, Some, ap, module_name, option_map, refl, slice_get, sym}
use Rattle.mv_bound_rules.proofs.Found.{got}
use Rattle.mv_bound_rules.proofs.NameLemmas.{module_of}

-- nothing stands there in the list that was read
pub not-at : {A : Type 0} (xs ys : List A) (i : ℕ) → ys ≡ xs → IsItemAt ys i None → slice_get xs i ≡ None
not-at xs ys i same item = sym (ap (λ l. slice_get l i) same) ∙ sym (got ys i None item)

-- nothing, where nothing was found
pub nothing : {A B : Type 0} (f : A → B) (r : Option A) (o : Option B) → r ≡ None → o ≡ None → option_map f r ≡ o
nothing f r o e g = ap (option_map f) e ∙ sym g

pub unnamed-handle : (m : Module) (h : ℕ) → slice_get m.module_handles h ≡ None → module_name m h ≡ None
unnamed-handle m h e = rw e refl

pub unnamed-address : (m : Module) (h : ℕ) (handle : ModuleHandle) → slice_get m.module_handles h ≡ Some handle → slice_get m.addresses handle.address ≡ None → module_name m h ≡ None
unnamed-address m h handle e f = rw (e, f) refl

pub unnamed-identifier : (m : Module) (h : ℕ) (handle : ModuleHandle) (address : ℕ) → slice_get m.module_handles h ≡ Some handle → slice_get m.addresses handle.address ≡ Some address
    → slice_get m.identifiers handle.name ≡ None → module_name m h ≡ None
unnamed-identifier m h handle address e f g = rw (e, f, g) refl

pub named-by : (m : Module) (h : ℕ) (handle : ModuleHandle) (address : ℕ) (name : List ℕ) → slice_get m.module_handles h ≡ Some handle → slice_get m.addresses handle.address ≡ Some address
    → slice_get m.identifiers handle.name ≡ Some name → module_name m h ≡ Some (module_of address name)
named-by m h handle address name e f g = rw (e, f, g) refl
