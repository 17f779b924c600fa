-- The task of the matches.
use Rattle.std.proofs.Common.{◌≡◌, ◌∙◌, List, [], Option, Some, None, option_map, unwrap_or, true, refl, ap, inl, inr, Bor}
use Rattle.clap.specs.Words.{App, HasKind, IsAmong, Kinds, Row, Text, is_simple_and_free, kind_of}
use Rattle.clap.specs.declared.error.Error.{Error}
use Rattle.clap.specs.declared.error.kind.ErrorKind.TheVariants.{OutOfMemory}
use Rattle.mv_commands.specs.Line.{Seen, moveledger, named_task, task_in}

pub now_of : (o : Option (Bor Text)) (d : Bor Text) → (unwrap_or o d).now ≡ unwrap_or (option_map (λ s. s.now) o) d.now
now_of None d = refl
now_of (Some s) d = refl

-- the name of the subcommand that was entered stands with its rows
pub name_with_rows : {A : Type 0} (name : A → Text) (rows : A → List Row) (o : Option A)
    → option_map name o ≡ option_map (λ (p : Text × List Row). p.0) (option_map {U = Text × List Row} (λ x. (name x, rows x)) o)
name_with_rows name rows None = refl
name_with_rows name rows (Some x) = refl

-- the task of a name and rows is that of the subcommand which has them
pub task_of_named : (o : Option (Text × List Row)) (name : Text) (rows : List Row) (task : Seen) → Some name ≡ option_map (λ (p : Text × List Row). p.0) o
    → Some rows ≡ option_map (λ (p : Text × List Row). p.1) o → task ≡ named_task name rows → task ≡ task_in o
task_of_named None name rows task n r t = cc
task_of_named (Some p) name rows task n r t =
    let name_is : name ≡ p.0 = cc in
    let rows_are : rows ≡ p.1 = cc in
    t ∙ ap (λ (x : Text). named_task x rows) name_is ∙ ap (λ (x : List Row). named_task p.0 x) rows_are

-- where memory didn't run out, the error has one of the kinds
pub among : (kinds : Kinds) (e : Error) → HasKind kinds e → (kind_of e ≡ OutOfMemory → ⊥) → IsAmong (kind_of e) kinds
among kinds e (inl memory) other = absurd (other memory)
among kinds e (inr h) other = h

-- clap says which kinds of error the definition gives
pub is_defined : (a : App) → a ≡ moveledger → is_simple_and_free a ≡ true
is_defined a same = ap is_simple_and_free same
