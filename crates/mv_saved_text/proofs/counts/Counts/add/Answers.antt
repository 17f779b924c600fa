use Rattle.mv_saved_text.proofs.Common.{◌+◌, ◌∙◌, ◌≡◌, ◌≤◌, List, ap, ap₂, length, subst, sym, ℕ, slice_set, Definition, capped, count_at, row_at, with_count}
use Rattle.mv_saved_text.proofs.Loads.CountedStructs.{rows_in, rows-put, rows-past}
use Rattle.mv_saved_text.proofs.counts.Counts.add.Goals as goal
use Rattle.mv_saved_text.proofs.counts.Counts.add.Goals.{in-Some, in_default}

-- a count in its row
abbrev with_row : List (List ℕ) → Definition → ℕ → List (List ℕ)
with_row rows d n = slice_set rows d.place (slice_set (row_at rows d.place) d.index n)

pub returns : goal.returns
returns c =
    let count : c.saturating_add-count.result ≡ capped (count_at (rows_in c.self.inside.rows.items) c.args.d + c.args.n) =
    c.saturating_add-count.ensures ∙ ap (λ k. capped (k + c.args.n)) (c.at.ensures ∙ ap (λ rows. count_at rows c.args.d) (sym c.self.view_is)) in
    elim c.match-get_mut.branch [
      | in-Some w ↦
          ap (λ t. rows_in t.rows.items) w.self-inside-is
          ∙ rows-put c.self.inside.rows.items c.from.result w.from-in-Some.result c.saturating_add-count.result w.in-Some.row.now w.put_count.new.row w.in-Some.ensures.item.3.0 w.in-Some.ensures.value
          w.put_count.ensures
          ∙ ap₂ (λ p i. with_row (rows_in c.self.inside.rows.items) (record { place = p; index = i }) c.saturating_add-count.result) c.from.ensures w.from-in-Some.ensures
          ∙ ap (λ k. with_row (rows_in c.self.inside.rows.items) c.args.d k) count
          ∙ ap (λ rows. with_count rows c.args.d c.args.n) c.self.view_is
      | in_default w ↦
          ap (λ t. rows_in t.rows.items) w.self-inside-is
          ∙ rows-past c.self.inside.rows.items c.args.d.place (slice_set (row_at (rows_in c.self.inside.rows.items) c.args.d.place) c.args.d.index
          (capped (count_at (rows_in c.self.inside.rows.items) c.args.d + c.args.n)))
          (subst (λ (k : ℕ). length c.self.inside.rows.items ≤ k) c.from.ensures w.in_default.ensures.item.3)
          ∙ ap (λ rows. with_count rows c.args.d c.args.n) c.self.view_is
    ]
