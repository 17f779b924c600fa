use Rattle.std.proofs.Common.{◌≡◌, ap, ◌∙◌, map, false, true, List, refl, sym, subst, Bor}
use Rattle.clap.specs.Words.{takes, App, HasKind, IsAmong, Text, app_of, fault_of, kind_of}
use Rattle.clap.specs.declared.error.Error.{Error}
use Rattle.mv_commands.specs.Line.{moveledger}
use Rattle.mv_commands.proofs.Tasks.{among, is_defined}
use Rattle.mv_commands.proofs.command_line.command.Goals as goal
use Rattle.std.proofs.lemmas.Bool.{false_from_ne_true}

apart : false ≡ true → ⊥
apart e = cc

pub returns-in-Err-2-clause-words : goal.returns-in-Err-2-clause-words
returns-in-Err-2-clause-words c w = false_from_ne_true _ (λ t.
    let words : List Text = map (λ (s : Bor Text). s.now) c.args.words.now in
    let taken : takes (app_of c.in-Ok.command) words ≡ true = ap (λ (a : App). takes a words) c.in-Ok.ensures ∙ t in
    let kind_is = c.kind.ensures ∙ ap (λ e. e.kind) c.in-Err-2.e-is ∙ c.in-Err-2.ensures.passes taken in
    let bad : false ≡ true = c.if-eq.ensures ∙ rw kind_is refl in
    apart bad)

pub returns-in-Err-2-clause-kinds : goal.returns-in-Err-2-clause-kinds
returns-in-Err-2-clause-kinds c =
    let words : List Text = map (λ (s : Bor Text). s.now) c.args.words.now in
    let has = c.in-Err-2.ensures.kinds (is_defined (app_of c.in-Ok.command) c.in-Ok.ensures) in
    let found = among (fault_of moveledger words) c.in-Err-2.e (subst (λ (a : App). HasKind (fault_of a words) c.in-Err-2.e) c.in-Ok.ensures has) (λ m.
    let kind_is = c.kind.ensures ∙ ap (λ e. e.kind) c.in-Err-2.e-is ∙ m in
    let bad : false ≡ true = c.if-eq.ensures ∙ rw kind_is refl in
    apart bad) in
    subst (λ (e : Error). IsAmong (kind_of e) (fault_of moveledger words)) (sym c.in-Err-2.e-is) found

pub returns-in-Ok-try_get_matches_from-clause-taken : goal.returns-in-Ok-try_get_matches_from-clause-taken
returns-in-Ok-try_get_matches_from-clause-taken c =
    let words : List Text = map (λ (s : Bor Text). s.now) c.args.words.now in
    let none = c.in-Ok-try_get_matches_from.ensures.kinds (is_defined (app_of c.in-Ok.command) c.in-Ok.ensures) in
    ap (λ (a : App). fault_of a words) (sym c.in-Ok.ensures) ∙ none
