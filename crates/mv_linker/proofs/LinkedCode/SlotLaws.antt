-- A module that may replace another has each of its public functions.
use Rattle.mv_linker.proofs.Common.{ℕ, ◌&&◌, ◌>>=◌, ◌||◌, ◌∙◌, ◌≡◌, FunctionDefinition, List, Module, Some, and_parts, ap, bytes_eq, false, function_named, function_place, function_stays, have_one_type}
use Rattle.mv_linker.proofs.Common.{is_public, list_all, may_replace, name_of_function, not, on_bind, option_map_or, same_Some, second_so, slice_get, structs_stay, sym, true}
use Rattle.mv_bound_rules.proofs.Found.{found_at, passing}
use Rattle.mv_linker.proofs.Lemmas.{all-among, among-at}
use Rattle.mv_interface.proofs.OwnDefinitions.{function_named_so}

pub public-functions-stay : (m n : Module) (i : ℕ) (d : FunctionDefinition) (name : List ℕ) → may_replace m n ≡ true → slice_get m.functions i ≡ Some d → is_public d ≡ true
    → name_of_function m d ≡ Some name
    → (j : ℕ) × (e : FunctionDefinition) × (slice_get n.functions j ≡ Some e) × (name_of_function n e ≡ Some name) × (is_public e ≡ true)
public-functions-stay m n i d name h at is_open named =
    let kept = all-among (function_stays m n) m.functions d (second_so (structs_stay m m.structs n n.structs) (list_all (function_stays m n) m.functions) h) (among-at m.functions i d at) in
    let stays : option_map_or (λ (e : FunctionDefinition). is_public e && have_one_type m d n e) (name_of_function m d >>= function_named n) false ≡ true =
    sym (ap (λ b. not b || option_map_or (λ (e : FunctionDefinition). is_public e && have_one_type m d n e) (name_of_function m d >>= function_named n) false) is_open) ∙ kept in
    let here : option_map_or (λ (e : FunctionDefinition). is_public e && have_one_type m d n e) (function_named n name) false ≡ true =
    sym (ap (λ o. option_map_or (λ (e : FunctionDefinition). is_public e && have_one_type m d n e) (o >>= function_named n) false) named) ∙ stays in
    let e = passing (λ (e : FunctionDefinition). is_public e && have_one_type m d n e) (function_named n name) here in
    on_bind (function_place n name) (slice_get n.functions) e.0 e.1 (λ k k_is e_at.
    let f = found_at (λ (d : FunctionDefinition). option_map_or (bytes_eq name) (name_of_function n d) false) n.functions k k_is in
    let named_so = function_named_so (name_of_function n f.entry) name f.passes in
    let one : f.entry ≡ e.0 = same_Some f.entry e.0 (sym f.at ∙ e_at) in
    (k, e.0, e_at, ap (name_of_function n) (sym one) ∙ named_so, (and_parts (is_public e.0) (have_one_type m d n e.0) e.2).0))
