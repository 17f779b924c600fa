use Rattle.mv_lines.proofs.Common.{IfOk-weaker, decimal, subst, ℕ}
use Rattle.serde.specs.Event.{Logs, text}
use Rattle.mv_lines.proofs.json_counts.send_counts.Goals as goal

pub returns : goal.returns
returns g c =
    let w = g.S.Serializer.written in
    let stored : Logs (w c.key-2.new.self) (w c.send_number-2.new.out) (text (decimal _)) =
    subst (λ (n : ℕ). Logs (w c.key-2.new.self) (w c.send_number-2.new.out) (text (decimal n))) c.saturating_sub-stored.ensures c.in_ok-send_number-2.ensures in
    IfOk-weaker c.end_map.result _ _
    (λ _ end. (
      w c.begin_map.new.self,
      c.in_ok-begin_map.ensures,
      (
        w c.key.new.self,
        w c.send_number.new.out,
        c.in_ok-key.ensures,
        c.in_ok-send_number.ensures,
        (
          w c.key-2.new.self,
          w c.send_number-2.new.out,
          c.in_ok-key-2.ensures,
          stored,
          (
            w c.key-3.new.self,
            w c.send_name.new.out,
            c.in_ok-key-3.ensures,
            c.in_ok-send_name.ensures,
            (w c.key-4.new.self, w c.send_number-3.new.out, c.in_ok-key-4.ensures, c.in_ok-send_number-3.ensures, end),
          ),
        ),
      ),
    )) c.end_map.ensures
