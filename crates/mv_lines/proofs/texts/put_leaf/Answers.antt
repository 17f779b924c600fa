use Rattle.mv_lines.proofs.Common.{◌++◌, ◌∙◌, ◌≡◌, ◌≢◌, ◌⊎◌, Bool, Bor, List, ap, arith, codes, cond, false, inl, inr, refl, sym, ℕ, eqb-true, IfOk-equal, ◌==◌, LeafKind, Address, Boolean}
use Rattle.mv_lines.proofs.Common.{Signer, leaf_text}
use Rattle.mv_machine.specs.Lines.{address_text}
use Rattle.mv_lines.proofs.Shows.Digits.{put_after}
use Rattle.mv_lines.proofs.texts.put_leaf.Goals as goal
use Rattle.mv_lines.proofs.texts.put_leaf.Goals.{then-n-eq0, else-n-eq0}

-- a number that isn't zero
apart : (n : ℕ) → n ≢ 0 → (n == 0) ≡ false
apart n some = grind (arith, eqb-true n 0)

-- a boolean, by its number
untrue : (kind : LeafKind) (n : ℕ) → kind ≡ Boolean → n ≡ 0 → codes "false" ≡ leaf_text kind n
untrue kind n is none = rw (is, none) refl

so : (kind : LeafKind) (n : ℕ) → kind ≡ Boolean → n ≢ 0 → codes "true" ≡ leaf_text kind n
so kind n is some = rw is (ap (λ (b : Bool). cond b (codes "false") (codes "true")) (sym (apart n some)))

-- an address, be it a signer's
addressed : (kind : LeafKind) (n : ℕ) → (kind ≡ Address) ⊎ (kind ≡ Signer) → address_text n ≡ leaf_text kind n
addressed kind n (inl e) = rw e refl
addressed kind n (inr e) = rw e refl

pub returns-after-n-eq0 : goal.returns-after-n-eq0
returns-after-n-eq0 c =
    let text : c.if-n-eq0.extend_from_slice.now ≡ leaf_text c.args.kind c.args.n = elim c.if-n-eq0.branch [
      | then-n-eq0 w ↦ ap (λ (b : Bor (List ℕ)). b.now) w.extend_from_slice-is ∙ untrue c.args.kind c.args.n c.in-Boolean.is w.if-n-eq0.true
      | else-n-eq0 w ↦ ap (λ (b : Bor (List ℕ)). b.now) w.extend_from_slice-is ∙ so c.args.kind c.args.n c.in-Boolean.is w.if-n-eq0.false
    ] in
    put_after c.extend_from_slice.result c.args.text.now.items c.extend_from_slice.new.self.items _ (leaf_text c.args.kind c.args.n) c.extend_from_slice.ensures.items text

pub returns-in-Number : goal.returns-in-Number
returns-in-Number c = rw c.in-Number.is c.put_number.ensures

pub returns-in-Address : goal.returns-in-Address
returns-in-Address c = IfOk-equal c.put_address.result _ _ _ c.put_address.ensures (ap (λ l. c.args.text.now.items ++ l) (addressed c.args.kind c.args.n c.in-Address.is))
