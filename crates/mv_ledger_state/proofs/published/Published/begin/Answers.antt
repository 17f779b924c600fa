use Rattle.mv_ledger_state.proofs.Common.{◌++◌, ◌∙◌, ◌∷◌, ◌≡◌, [], ap, length, refl, subst, sym, AllByRecursion, HeldModules, IsTalliedStore, List, None, PublishedView, held_now}
use Rattle.mv_undo.specs.Undo.{AreMarks}
use Rattle.mv_ledger_state.specs.Blocks.{counts_at, held_at, held_in}
use Rattle.mv_ledger_state.specs.declared.blocks.Mark.{Mark}
use Rattle.mv_ledger_state.proofs.Marks.{ascend-begun, each-begun, held-begun}
use Rattle.mv_ledger_state.proofs.published.Published.begin.Goals as goal

pub invariant_of-self-2 : goal.invariant_of-self-2
invariant_of-self-2 c =
    let p = c.self.inside in
    let b = p.blocks in
    let m : Mark = record { noted = c.len.result; store = None } in
    let marks : c.push_reserved.new.self.items ≡ b.marks.items ++ m ∷ [] = c.push_reserved.ensures.items ∙ ap (λ (ms : List Mark). ms ++ m ∷ []) c.in_ok-reserve.ensures.items in
    let count : m.noted ≡ length b.noted.items = c.len.ensures ∙ b.noted.ok.0 in (
      c.self.invariant.0,
      record {
        ascend =
            subst (λ (ms : List Mark). AreMarks (counts_at ms) (length b.noted.items)) (sym marks) (ascend-begun b.marks.items m (length b.noted.items) count c.self.invariant.1.ascend);
        each =
            subst (λ (ms : List Mark). AllByRecursion (λ (h : HeldModules). IsTalliedStore h.modules h.tallies) (held_at b.noted.items ms p.store p.tallies)) (sym marks)
            (subst (λ (hs : List HeldModules). AllByRecursion (λ (h : HeldModules). IsTalliedStore h.modules h.tallies) hs) (sym (held-begun b.noted.items b.marks.items m p.store p.tallies refl count))
            (each-begun (held_in b p.store p.tallies) p.store p.tallies c.self.invariant.1.each c.self.invariant.0));
        room = c.self.invariant.1.room;
      },
    )

pub returns-clause-ok : goal.returns-clause-ok
returns-clause-ok c =
    let p = c.self.inside in
    let b = p.blocks in
    let m : Mark = record { noted = c.len.result; store = None } in
    let marks : c.push_reserved.new.self.items ≡ b.marks.items ++ m ∷ [] = c.push_reserved.ensures.items ∙ ap (λ (ms : List Mark). ms ++ m ∷ []) c.in_ok-reserve.ensures.items in
    let count : m.noted ≡ length b.noted.items = c.len.ensures ∙ b.noted.ok.0 in
    let held = ap (λ (ms : List Mark). held_at b.noted.items ms p.store p.tallies) marks ∙ held-begun b.noted.items b.marks.items m p.store p.tallies refl count in
    ap (λ (hs : List HeldModules). record { modules = p.store; tallies = p.tallies; marks = hs; room = b.room }) held
    ∙ ap (λ (v : PublishedView). record v { marks = v.marks ++ held_now v ∷ [] }) c.self.view_is
