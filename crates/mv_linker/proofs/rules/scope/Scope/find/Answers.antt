use Rattle.mv_linker.proofs.Common.{◌∙◌, None, Option, ap, sym, lookup, option_or, module_place, ModuleName, has_name_of, tables_in, found_among, offered}
use Rattle.mv_linker.proofs.Kept.IndexLemmas.{found-before}
use Rattle.mv_linker.proofs.Joining.Scopes.{find-with_tables}
use Rattle.mv_linker.proofs.rules.scope.Scope.find.Goals as goal

pub returns : goal.returns
returns c =
    let s = c.args.self.now in
    let name : ModuleName = record { address = c.args.address; name = c.args.name.now } in
    let before = module_place (tables_in s.store.now) name in
    let asked = c.asked_for-asked.result in
    c.place_of.ensures
    ∙ ap (λ (n : ModuleName). option_or (lookup (has_name_of asked) s.names) (module_place (tables_in s.store.now) n)) c.asked_for-asked.ensures
    ∙ ap (λ (o : Option _). option_or o before) (s.found asked ∙ ap (λ (n : ModuleName). found_among n (offered s.new.now) s.places.items None) c.asked_for-asked.ensures)
    ∙ sym (found-before name (offered s.new.now) s.places.items before)
    ∙ ap (λ places. found_among name (offered s.new.now) places before) s.placed
    ∙ sym (find-with_tables (tables_in s.store.now) (offered s.new.now) name s.named)
