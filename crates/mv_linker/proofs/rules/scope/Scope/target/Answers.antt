use Rattle.mv_linker.proofs.Common.{refl, sym, is_module, ModuleName, modules_in}
use Rattle.mv_linker.proofs.Joining.Joins.{well-defined}
use Rattle.mv_linker.proofs.Joining.Resolving.{nowhere}
use Rattle.mv_bound_rules.proofs.NameLemmas.{module_place-is}
use Rattle.mv_linker.proofs.rules.scope.Scope.target.Goals as goal
use Rattle.mv_bound_rules.proofs.Entries.{place_below}

pub returns-in_default-find-clause-refused : goal.returns-in_default-find-clause-refused
returns-in_default-find-clause-refused c =
    let name : ModuleName = record { address = c.in-Some.address; name = c.in-Some.name.now } in
    (refl, λ e. nowhere (modules_in c.args.self.now) c.args.m.now c.args.h name c.in-Some.ensures c.in_default-find.ensures e)

pub found-module-requires-clause-place : goal.found-module-requires-clause-place
found-module-requires-clause-place c =
    let name : ModuleName = record { address = c.in-Some.address; name = c.in-Some.name.now } in
    place_below (is_module name) (modules_in c.args.self.now) c.in-Some-find.place (sym c.in-Some-find.ensures)

pub returns-clause-ok : goal.returns-clause-ok
returns-clause-ok c =
    let name : ModuleName = record { address = c.in-Some.address; name = c.in-Some.name.now } in
    let there = module_place-is (modules_in c.args.self.now) name c.in-Some-find.place (sym c.in-Some-find.ensures) in
    record {
      name = name;
      home = there.0;
      named = sym c.in-Some.ensures;
      place = sym c.in-Some-find.ensures;
      there = there.1;
      defined = well-defined c.args.self.now c.requires.fits c.in-Some-find.place there.0 there.1;
      found = c.found-module.ensures there.0 there.1;
    }
