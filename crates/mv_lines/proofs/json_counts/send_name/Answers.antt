use Rattle.mv_lines.proofs.Common.{◌++◌, ◌∙◌, ◌≡◌, IsPlain, List, OnOk, ap, subst, sym, ℕ}
use Rattle.mv_machine.specs.Lines.{struct_text}
use Rattle.serde.specs.Event.{Logs, text}
use Rattle.mv_lines.proofs.json_counts.send_name.Goals as goal

pub as_str-requires : goal.as_str-requires
as_str-requires g c = subst IsPlain (sym (c.deref.ensures.value ∙ c.in-Ok.ensures ∙ ap (λ l. l ++ struct_text c.args.name.now) c.clear.ensures.items)) c.requires

pub returns-in-Ok : goal.returns-in-Ok
returns-in-Ok g c =
    let made : c.deref.result.now ≡ struct_text c.args.name.now = c.deref.ensures.value ∙ c.in-Ok.ensures ∙ ap (λ (l : List ℕ). l ++ struct_text c.args.name.now) c.clear.ensures.items in
    subst (λ (t : List ℕ). OnOk c.str.result (Logs (g.S.Serializer.written c.args.out.now) (g.S.Serializer.written c.str.new.self) (text t))) (c.as_str.ensures ∙ made) c.str.ensures
