-- One input and one ledger allow one report.
use Rattle.std.proofs.Common.{◌≡◌, ℕ, ◌+◌, ◌≤◌, List, [], ◌∷◌, ◌++◌, length, flat_map, refl, sym, ap, ap₂, ◌∙◌, subst, arith, ◌⊎◌, inl, inr}
use Rattle.std.proofs.lemmas.Option.{some_pair_parts}
use Rattle.mv_move_types.specs.Published.{PublishedModule}
use Rattle.mv_binary_format.specs.Laws.{IsReadByText}
use Rattle.mv_machine.specs.Lines.{Reply, Published, Refused, reply_lines, numbered}
use Rattle.mv_machine.specs.Ledger.{Offer, LedgerState, Request, Publish, Run, Show, Audit, BadRun, Bad, Answers, with_bundle}
use Rattle.mv_ledger_state.specs.RecordText.{Asks, IsShaped}
use Rattle.mv_ledger_state.specs.Publishing.{Spells, IsPublished, IsRefusedAt}
use Rattle.mv_ledger_state.specs.Exact.{IsAccepted, IsRefused, no_bundle, failing, IsRightly}
use Rattle.mv_ledger_state.specs.View.{LedgerView, state_of}
use Rattle.moveledger.specs.Records.{Record, Whole, Cut, AreRecords, most_records}
use Rattle.moveledger.specs.Headline.{AnswersWhole, Step, Reports}
use Rattle.moveledger.specs.OneReport.{OneReport}
use Rattle.moveledger.proofs.One.{begins_one, nothing_begins}
use Rattle.moveledger.proofs.OneRequest.{offers_fit, publish-one, asks-one}
use Rattle.mv_ledger_state.proofs.Spelling.{OffersAreBytes, offers_bytes}
use Rattle.mv_saved_text.proofs.SavedFails.{passed-one}
use Rattle.moveledger.proofs.OneRefusal.{published_or_refused, refused-one}

-- two replies are one, and so are the states after them
abbrev AreOne : Reply → Reply → LedgerState → LedgerState → Type 0
AreOne r q t u = (r ≡ q) × (t ≡ u)

-- ---- a publish record

module _ (reads : IsReadByText) (s : LedgerState) (payload : List ℕ) (sender : ℕ) (offers : List Offer) (asked : IsShaped 1 payload (Publish sender offers)) where
  has : OffersAreBytes offers
  has = offers_bytes offers (offers_fit sender offers asked.2)

  -- what was accepted is this bundle
  accepted : (bundle : List PublishedModule) → IsAccepted s payload bundle → IsPublished s sender offers bundle
  accepted bundle a =
      let one = publish-one a.sender sender a.offers offers (sym a.asked.1 ∙ asked.1) a.asked.2 asked.2 in
      subst (λ (z : ℕ). IsPublished s z offers bundle) one.0 (subst (λ (z : List Offer). IsPublished s a.sender z bundle) one.1 a.published)

  -- and so is what was refused
  refused : {phase : ℕ} → IsRefused s payload phase → IsRefusedAt s sender offers phase
  refused (no_bundle none) = absurd (none (Publish sender offers) asked)
  refused (failing other others phase shaped at) =
      let one = publish-one other sender others offers (sym shaped.1 ∙ asked.1) shaped.2 asked.2 in
      subst (λ (z : ℕ). IsRefusedAt s z offers phase) one.0 (subst (λ (z : List Offer). IsRefusedAt s other z phase) one.1 at)

  rightly-one : (r q : Reply) (t u : LedgerState) → IsRightly s payload r t → IsRightly s payload q u → AreOne r q t u
  rightly-one (Published n) (Published m) t u a b =
      let same : a.0 ≡ b.0 = passed-one reads offers a.0 b.0 has (accepted a.0 a.1.0).0 (accepted b.0 b.1.0).0 in
      (ap Published (a.1.1 ∙ ap length same ∙ sym b.1.1), a.1.2 ∙ ap (with_bundle s) same ∙ sym b.1.2)
  rightly-one (Published n) (Refused m) t u a b = absurd (published_or_refused reads s sender offers has a.0 (accepted a.0 a.1.0) (refused b.0))
  rightly-one (Refused n) (Published m) t u a b = absurd (published_or_refused reads s sender offers has b.0 (accepted b.0 b.1.0) (refused a.0))
  rightly-one (Refused n) (Refused m) t u a b = (ap Refused (refused-one reads s sender offers has (refused a.0) (refused b.0)), a.1 ∙ sym b.1)
  rightly-one (Published n) q t u a b = absurd b
  rightly-one (Refused n) q t u a b = absurd b
  rightly-one r q t u a b = absurd a

-- ---- any whole record

replies-one : IsReadByText → (kind : ℕ) (payload : List ℕ) (s : LedgerState) (request : Request) (r q : Reply) (t u : LedgerState)
    → Asks kind payload request → Answers Spells s request r t → Answers Spells s request q u
    → (kind ≡ 1 → IsRightly s payload r t) → (kind ≡ 1 → IsRightly s payload q u) → AreOne r q t u
replies-one reads kind payload s (Publish sender offers) r q t u asked a b x y =
    rightly-one reads s payload sender offers (subst (λ (k : ℕ). IsShaped k payload (Publish sender offers)) asked.0 asked) r q t u (x asked.0) (y asked.0)
replies-one reads kind payload s (Run run) r q t u asked a b x y = some_pair_parts r q t u (sym a ∙ b)
replies-one reads kind payload s (Show format) r q t u asked a b x y = (a.0 ∙ sym b.0, a.1 ∙ sym b.1)
replies-one reads kind payload s (Audit format) r q t u asked a b x y = (a.0 ∙ sym b.0, a.1 ∙ sym b.1)
replies-one reads kind payload s BadRun r q t u asked a b x y = (a.0 ∙ sym b.0, a.1 ∙ sym b.1)
replies-one reads kind payload s Bad r q t u asked a b x y = (a.0 ∙ sym b.0, a.1 ∙ sym b.1)

whole-one : IsReadByText → (kind : ℕ) (payload : List ℕ) (r q : Reply) (old new start end : LedgerView) → state_of old ≡ state_of start
    → AnswersWhole kind payload r old new → AnswersWhole kind payload q start end → AreOne r q (state_of new) (state_of end)
whole-one reads kind payload r q old new start end same h k =
    let asks : k.request ≡ h.request = asks-one kind payload k.request h.request k.asked h.asked in
    let begun : Answers Spells (state_of old) k.request q (state_of end) = subst (λ (z : LedgerState). Answers Spells z k.request q (state_of end)) (sym same) k.faithful in
    let answers : Answers Spells (state_of old) h.request q (state_of end) = subst (λ (z : Request). Answers Spells (state_of old) z q (state_of end)) asks begun in
    let rightly : kind ≡ 1 → IsRightly (state_of old) payload q (state_of end) = λ is. subst (λ (z : LedgerState). IsRightly z payload q (state_of end)) (sym same) (k.exact is) in
    replies-one reads kind payload (state_of old) h.request r q (state_of new) (state_of end) h.asked h.faithful answers h.exact rightly

-- ---- records

step-one : IsReadByText → (r : Record) (old new start end : LedgerView) (ls ms : List (List ℕ)) → state_of old ≡ state_of start
    → Step old r ls new → Step start r ms end → (ls ≡ ms) × (state_of new ≡ state_of end)
step-one reads Cut old new start end ls ms same a b = (a.0 ∙ sym b.0, ap state_of a.1 ∙ same ∙ sym (ap state_of b.1))
step-one reads (Whole kind payload) old new start end ls ms same a b =
    let one = whole-one reads kind payload a.0 b.0 old new start end same a.1.0 b.1.0 in
    (a.1.1 ∙ ap reply_lines one.0 ∙ sym b.1.1, one.1)

reports-one : IsReadByText → (rs : List Record) (n : ℕ) (old new start end : LedgerView) (text other : List ℕ) → state_of old ≡ state_of start
    → Reports n old rs text new → Reports n start rs other end → (text ≡ other) × (state_of new ≡ state_of end)
reports-one reads [] n old new start end text other same a b = (a.0 ∙ sym b.0, ap state_of a.1 ∙ same ∙ sym (ap state_of b.1))
reports-one reads (r ∷ rs) n old new start end text other same a b =
    let first = step-one reads r old a.1 start b.1 a.0 b.0 same a.3 b.3 in
    let more = reports-one reads rs (n + 1) a.1 new b.1 end a.2 b.2 first.1 a.5 b.5 in
    (a.4 ∙ ap₂ (λ (lines : List (List ℕ)) (rest : List ℕ). flat_map (numbered n) lines ++ rest) first.0 more.0 ∙ sym b.4, more.1)

-- as many records of one input
records-one : (rs bs : List Record) (input x y : List ℕ) → AreRecords input rs x → AreRecords input bs y → length rs ≡ length bs → rs ≡ bs
records-one [] [] input x y a b l = refl
records-one [] (r ∷ bs) input x y a b l = absurd (omega (arith, l))
records-one (r ∷ rs) [] input x y a b l = absurd (omega (arith, l))
records-one (r ∷ rs) (q ∷ bs) input x y a b l =
    let one = begins_one input r q a.0 b.0 a.1 b.1 in
    let few : length rs ≡ length bs = omega (arith, l) in
    ap₂ (λ (u : Record) (v : List Record). u ∷ v) one.0 (records-one rs bs b.0 x y (subst (λ (z : List ℕ). AreRecords z rs x) one.1 a.2) b.2 few)

-- there are no more of them than up to its end
records-most : (rs bs : List Record) (input x y : List ℕ) → AreRecords input rs x → x ≡ [] → AreRecords input bs y → length bs ≤ length rs
records-most rs [] input x y a e b = omega arith
records-most [] (q ∷ bs) input x y a e b = absurd (nothing_begins input q b.0 (a ∙ e) b.1)
records-most (r ∷ rs) (q ∷ bs) input x y a e b =
    let one = begins_one input r q a.0 b.0 a.1 b.1 in
    let rest : length bs ≤ length rs = records-most rs bs b.0 x y (subst (λ (z : List ℕ). AreRecords z rs x) one.1 a.2) e b.2 in
    omega (arith, rest)

-- where the one read up to the end, the other read no more
count-most : (rs bs : List Record) (input x y : List ℕ) (n m : ℕ) → AreRecords input rs x → AreRecords input bs y → n ≡ length rs → m ≡ length bs
    → m ≤ most_records → (x ≡ []) ⊎ (n ≡ most_records) → m ≤ n
count-most rs bs input x y n m a b c d lt (inl e) =
    let le : length bs ≤ length rs = records-most rs bs input x y a e b in
    omega (arith, le, c, d)
count-most rs bs input x y n m a b c d lt (inr e) = omega (arith, lt, e)

pub one_report_lem : IsReadByText → OneReport
one_report_lem reads given also held holds before after old new start end n m few less h k input same =
    let read : AreRecords h.input k.records k.rest = subst (λ (z : List ℕ). AreRecords z k.records k.rest) (sym input) k.read in
    let most : m ≤ n = count-most h.records k.records h.input h.rest k.rest n m h.read read h.answered k.answered less h.all in
    let least : n ≤ m = count-most k.records h.records h.input k.rest h.rest m n read h.read k.answered h.answered few k.all in
    let number : n ≡ m = omega (arith, most, least) in
    let records : h.records ≡ k.records = records-one h.records k.records h.input h.rest k.rest h.read read (sym h.answered ∙ number ∙ k.answered) in
    let report : Reports 1 start h.records k.text end = subst (λ (z : List Record). Reports 1 start z k.text end) (sym records) k.report in
    let one = reports-one reads h.records 1 old new start end h.text k.text same h.report report in
    (number, records, one.0, one.1)
