use Rattle.mv_ledger_state.proofs.Common.{◌<◌, ◌^◌, ◌∙◌, ◌≡◌, Err, IsTrue, List, None, Ok, Result, Some, ap, lt-ltb, subst, sym, ℕ, IfOk-weaker, then_some, IfErr, IfOk, nat_lt, ◌>>=◌, width_bits}
use Rattle.mv_ledger_state.proofs.Common.{Refusal, Phase, LeafKind, Boolean, Read, byte_from, Reads, number_fits, leaf_from}
use Rattle.mv_ledger_state.proofs.payload.leaf.Goals as goal

module _ (from : List ℕ → Read ℕ) (old new : List ℕ) where
  -- what a read says, clause by clause
  ok : (r : Result ℕ Refusal) → Reads from old r new → IfOk r (λ n. from old ≡ Some (n, new))
  ok (Ok n) reads = reads
  ok (Err e) reads = tt

  refused : (r : Result ℕ Refusal) → Reads from old r new → r ≡ Err (Phase 2) → from old ≡ None
  refused (Ok n) reads is = absurd (cc)
  refused (Err e) reads is = reads.1

  errors : (r : Result ℕ Refusal) → Reads from old r new → IfErr r (λ e. e ≡ Phase 2)
  errors (Ok n) reads = tt
  errors (Err e) reads = reads.0

-- a read of the same kind
at-kind : (kind of : LeafKind) (old new : List ℕ) (r : Result ℕ Refusal) → kind ≡ of → Reads (leaf_from of) old r new → Reads (leaf_from kind) old r new
at-kind kind of old new r is reads = subst (λ (k : LeafKind). Reads (leaf_from k) old r new) (sym is) reads

-- a byte below 2 is a boolean
module _ (kind : LeafKind) (b n : ℕ) (is : kind ≡ Boolean) (below : b < 2) (same : n ≡ b) where
  boolean : (old new : List ℕ) → byte_from old ≡ Some (b, new) → leaf_from kind old ≡ Some (n, new)
  boolean old new read = rw (is, same) (ap (λ o. o >>= λ x. then_some (nat_lt x.0 2) x) read ∙ ap (λ t. then_some t (b, new)) (lt-ltb b 2 below))

  fits : IsTrue (number_fits kind n)
  fits = rw (is, same) (lt-ltb b 2 below)

pub returns-in-Number-clause-ok : goal.returns-in-Number-clause-ok
returns-in-Number-clause-ok c =
    ok (leaf_from c.args.kind) c.args.reader.now c.number_of.new.self c.number_of.result (at-kind c.args.kind _ _ _ _ c.in-Number.is c.number_of.ensures.reads)

pub returns-in-Number-clause-range : goal.returns-in-Number-clause-range
returns-in-Number-clause-range c =
    IfOk-weaker c.number_of.result (λ n. n < 2 ^ width_bits c.in-Number.width) (λ n. IsTrue (number_fits c.args.kind n))
    (λ n below. rw c.in-Number.is (lt-ltb n (2 ^ width_bits c.in-Number.width) below)) c.number_of.ensures.small

pub returns-in-Number-clause-refused : goal.returns-in-Number-clause-refused
returns-in-Number-clause-refused c =
    refused (leaf_from c.args.kind) c.args.reader.now c.number_of.new.self c.number_of.result (at-kind c.args.kind _ _ _ _ c.in-Number.is c.number_of.ensures.reads)

pub returns-in-Number-clause-errors : goal.returns-in-Number-clause-errors
returns-in-Number-clause-errors c =
    errors (leaf_from c.args.kind) c.args.reader.now c.number_of.new.self c.number_of.result (at-kind c.args.kind _ _ _ _ c.in-Number.is c.number_of.ensures.reads)

pub returns-in-Address-clause-ok : goal.returns-in-Address-clause-ok
returns-in-Address-clause-ok c = ok (leaf_from c.args.kind) c.args.reader.now c.address.new.self c.address.result (at-kind c.args.kind _ _ _ _ c.in-Address.is c.address.ensures)

pub returns-in-Address-clause-refused : goal.returns-in-Address-clause-refused
returns-in-Address-clause-refused c =
    refused (leaf_from c.args.kind) c.args.reader.now c.address.new.self c.address.result (at-kind c.args.kind _ _ _ _ c.in-Address.is c.address.ensures)

pub returns-in-Address-clause-errors : goal.returns-in-Address-clause-errors
returns-in-Address-clause-errors c =
    errors (leaf_from c.args.kind) c.args.reader.now c.address.new.self c.address.result (at-kind c.args.kind _ _ _ _ c.in-Address.is c.address.ensures)

pub returns-in_err-byte-in-Boolean-clause-refused : goal.returns-in_err-byte-in-Boolean-clause-refused
returns-in_err-byte-in-Boolean-clause-refused c _ = rw c.in-Boolean.is (ap (λ o. o >>= λ b. then_some (nat_lt b.0 2) b) c.in_err-byte-in-Boolean.ensures.1)

pub returns-then-byte-lt2-clause-ok : goal.returns-then-byte-lt2-clause-ok
returns-then-byte-lt2-clause-ok c =
    boolean c.args.kind c.in_ok-byte-in-Boolean.byte c.from.result c.in-Boolean.is c.if-byte-lt2.true c.from.ensures c.args.reader.now c.byte.new.self c.in_ok-byte-in-Boolean.ensures

pub returns-then-byte-lt2-clause-range : goal.returns-then-byte-lt2-clause-range
returns-then-byte-lt2-clause-range c = fits c.args.kind c.in_ok-byte-in-Boolean.byte c.from.result c.in-Boolean.is c.if-byte-lt2.true c.from.ensures
