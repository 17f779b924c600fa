use Rattle.mv_linker.proofs.Common.{ℕ, ◌∙◌, ◌≡◌, Global, List, Vec, ap, arith, length, map, subst, sym, length-map, IfErr-weaker, IfOk-weaker, AllZip, tables_in, offered, AreDefined, AreFoundFor}
use Rattle.mv_linker.proofs.Common.{modules_in, New, Defined}
use Rattle.mv_linker.specs.Sizes.{AreSizes}
use Rattle.mv_linker.proofs.StructSizes.NoStructs.{no-sizes}
use Rattle.mv_linker.proofs.Kept.HandleDefinitions.{all-defined}
use Rattle.mv_linker.proofs.rules.scope.Scope.sizes.Goals as goal
use Rattle.std.proofs.lemmas.Slice.Zip.{AllZip-long}
use Rattle.mv_linker.proofs.Joining.Joins.{fitting}

pub sizes_of-requires : goal.sizes_of-requires
sizes_of-requires c =
    let s = c.args.self.now in
    let found = map (λ (v : Vec Defined Global). v.items) c.in_ok-found.found.items in
    omega (
      arith,
      ap length c.deref.ensures.value,
      length-map s.new.now (λ (n : New). n.module),
      length-map c.in_ok-found.found.items (λ (v : Vec Defined Global). v.items),
      AllZip-long (AreFoundFor (tables_in s.store.now) s.places.items) c.args.names.now found c.in_ok-found.ensures,
      c.requires.names.len,
    )

pub returns : goal.returns
returns c =
    let s = c.args.self.now in
    let modules = modules_in s in
    let old = tables_in s.store.now in
    let ns = offered s.new.now in
    let found = map (λ (v : Vec Defined Global). v.items) c.in_ok-found.found.items in
    let lists = map (λ (v : Vec Defined Global). v.items) c.deref.result.now in
    let is-found : lists ≡ found = ap (map (λ (v : Vec Defined Global). v.items)) c.deref.ensures.value in
    let j = fitting s c.requires.fits in
    let placed = subst (λ (places : List ℕ). AllZip (AreFoundFor old places) c.args.names.now found) s.placed c.in_ok-found.ensures in
    let all : AreDefined modules ns found = all-defined old ns j c.requires.fits.store.links.structs c.args.names.now found c.requires.names placed in
    let defined : AreDefined modules ns lists = subst (AreDefined modules ns) (sym is-found) all in
    record {
      ok = IfOk-weaker c.sizes_of.result _ _ (λ v f. (f modules defined).0) c.sizes_of.ensures.ok;
      small = IfOk-weaker c.sizes_of.result _ _ (λ v f. (f modules defined).1) c.sizes_of.ensures.ok;
      refused = IfErr-weaker c.sizes_of.result _ _ (λ e f. f modules defined) c.sizes_of.ensures.refused;
    }

pub returns-then-have_no_structs : goal.returns-then-have_no_structs
returns-then-have_no_structs c =
    let s = c.args.self.now in
    let both = no-sizes (modules_in s) s.new.now (sym c.have_no_structs.ensures ∙ c.if-have_no_structs.true) in
    record {
      ok = subst (AreSizes (modules_in s) (offered s.new.now)) (sym c.in_ok-no_sizes.ensures) both.0;
      small = both.1;
      refused = tt;
    }
