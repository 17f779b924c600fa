use Rattle.mv_lines.proofs.Common.{[], ◌++◌, ◌-◌, ◌<◌, ◌∙◌, ◌∷◌, ◌≡◌, Bool, List, ap, ap₂, arith, codes, cond, false, length, nat_tests, nil_from_length, rules, subst, sym, tables_in, take, ℕ}
use Rattle.mv_lines.specs.Left.{lines_from}
use Rattle.mv_lines.specs.Pieces.{TakesPiece}
use Rattle.mv_lines.specs.Sources.{Item, item_of, line_of, object_of}
use Rattle.mv_lines.proofs.Shows.Pieces.{takes-object, takes-opening}
use Rattle.mv_lines.proofs.walk.Walk.next.Goals as goal

pub returns-then-not-is_empty-clause-piece : goal.returns-then-not-is_empty-clause-piece
returns-then-not-is_empty-clause-piece c =
    let self = c.args.self.now in
    let modules = tables_in self.store.now in
    let some : 0 < length self.opening.now = first_of (search rules, omega arith, grind (arith, nat_tests)) in
    rw c.if-self.false (subst (λ (t : List ℕ). TakesPiece false t (lines_from self.is_json modules self.opening.now self.told self.entries) (lines_from self.is_json modules [] self.told self.entries))
    (sym c.in_ok-text.ensures.items) (takes-opening self.is_json modules self.opening.now self.told self.entries self.no_opening some))

pub returns-then-self-2-clause-piece : goal.returns-then-self-2-clause-piece
returns-then-self-2-clause-piece c =
    let self = c.args.self.now in
    let modules = tables_in self.store.now in
    let item : Item = item_of c.in-Some.entry in
    let none : length self.opening.now ≡ 0 = first_of (search rules, omega arith, grind (arith, nat_tests)) in
    let is : self.entries ≡ item ∷ c.skip.new.self = c.in-Some.ensures ∙ ap (λ (es : List Item). item ∷ es) (sym c.skip.ensures) in
    let object : c.in_ok-text-3.text.items ≡ object_of modules item ++ codes "," =
    c.in_ok-text-3.ensures ∙ ap (λ (b : Bool). cond b (object_of modules item ++ codes ",") (line_of modules item)) c.if-self-2.true in
    rw (c.if-self.false, c.if-self-2.true, nil_from_length self.opening.now none) (takes-object modules self.told self.entries item c.skip.new.self c.between-text.result.items is
    (c.between-text.ensures ∙ ap₂ (λ (b : Bool) (l : List ℕ). cond b (take (length l - 1) l) l) c.is_empty-then-self-2.ensures object))
