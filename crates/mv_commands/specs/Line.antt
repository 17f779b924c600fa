-- The command line, and the task that its matches have.
-- First the commands as the library of command lines takes them, then the task that was asked for, then errors.
--   apply, migrate, prove, check   each command's words
--   ledger_commands, moveledger    the program with two of them, and with all four
--   Seen, seen task                a task by the names that were given
--   number_of text                 the number that a text writes
--   named_task name rows           the task of a command, by what was given to it
--   task_in found                  the same of what the command line was taken apart into
--   IsOfKind kinds e               where the words are at fault, the error is of one of these kinds
--   IsWords e                      the words are at fault, and not memory
-- The others are parts of these.
use Rattle.std.specs.Prelude.{ℕ, ◌^◌, ◌&&◌, nat_lt, List, [], length, true, Option, Some, None, codes, option_and_then, option_map, unwrap_or, if◌then◌else◌, ⊤}
use Rattle.std.specs.Char.{digit_value}
use Rattle.std.specs.List.{list_all}
use Rattle.std.specs.Str.{bytes_eq}
use Rattle.std.specs.Str.Parse.{digits_value, without_leading_plus}
use Rattle.clap.specs.declared.builder.value_parser.ValueParser.TheVariants.{Unsigned}
use Rattle.clap.specs.Values.{kind_of}
use Rattle.clap.specs.Words.{App, IsAmong, Kinds, Rule, Row, Text, new_app, new_rule, with_rule, with_subcommand, first_of}
use Rattle.mv_commands.specs.declared.command_line.Task.{Task}
use Rattle.mv_commands.specs.declared.command_line.Task.TheVariants.{Apply, Prove, Check, Migrate}
use Rattle.mv_commands.specs.declared.command_line.LineError.{LineError}
use Rattle.mv_commands.specs.declared.command_line.LineError.TheVariants.{Words, Memory}

-- a name that has to be given
abbrev pub name_of : Text → Rule
name_of name = record (new_rule name) { required = true }

-- an option that may be given, with the name of a file
abbrev pub path_option : Text → Rule
path_option name = record (new_rule name) { long = Some name; value_names = 1 }

-- an option that may be given, with a number that 64 bits hold
abbrev pub number_option : Text → Rule
number_option name = record (new_rule name) { long = Some name; value_names = 1; parser = Some (Unsigned 0 18446744073709551615) }

-- apply [--load PATH] [--save PATH] FILE
abbrev pub apply : App
apply = with_rule (with_rule (with_rule (new_app (codes "apply")) (path_option (codes "load"))) (path_option (codes "save"))) (name_of (codes "FILE"))

-- migrate OLD NEW
abbrev pub migrate : App
migrate = with_rule (with_rule (new_app (codes "migrate")) (name_of (codes "OLD"))) (name_of (codes "NEW"))

-- prove [--steps N] MODULE
abbrev pub prove : App
prove = with_rule (with_rule (new_app (codes "prove")) (number_option (codes "steps"))) (name_of (codes "MODULE"))

-- check MODULE CERT
abbrev pub check : App
check = with_rule (with_rule (new_app (codes "check")) (name_of (codes "MODULE"))) (name_of (codes "CERT"))

-- one of the commands has to be given
abbrev pub required_command : App → App
required_command a = record a { top = record a.top { subcommand_required = true } }

-- moveledger, with its commands over ledgers
abbrev pub ledger_commands : App
ledger_commands = with_subcommand (with_subcommand (required_command (new_app (codes "moveledger"))) apply.top) migrate.top

-- moveledger, with one of its four commands
abbrev pub moveledger : App
moveledger = with_subcommand (with_subcommand ledger_commands prove.top) check.top

-- a task without where its names lie
pub data Seen : Type 0 where
  Applies : Text → Option Text → Option Text → Seen
  Proves : Option ℕ → Text → Seen
  Checks : Text → Text → Seen
  Migrates : Text → Text → Seen

-- the names of a task
abbrev pub seen : Task → Seen
seen (Apply file load save) = Applies file.now (option_map (λ s. s.now) load) (option_map (λ s. s.now) save)
seen (Prove file steps) = Proves steps file.now
seen (Check file certificate) = Checks file.now certificate.now
seen (Migrate old new) = Migrates old.now new.now

-- what was given under a name
abbrev pub given_as : Text → List Row → Text
given_as id rows = unwrap_or (first_of id rows) []

-- the number that a text writes in decimal digits, if it is one that 64 bits hold; a plus may stand first
abbrev pub number_of : Text → Option ℕ
number_of text =
    let digits = without_leading_plus text in
    if nat_lt 0 (length digits) && list_all (λ c. nat_lt (digit_value c) 10) digits && nat_lt (digits_value 10 digits) (2 ^ 64)
    then Some (digits_value 10 digits) else None

-- the task of a command by its name, with what was given to it
abbrev pub named_task : Text → List Row → Seen
named_task name rows =
    if bytes_eq name (codes "prove") then Proves (option_and_then number_of (first_of (codes "steps") rows)) (given_as (codes "MODULE") rows)
    else if bytes_eq name (codes "check") then Checks (given_as (codes "MODULE") rows) (given_as (codes "CERT") rows)
    else if bytes_eq name (codes "migrate") then Migrates (given_as (codes "OLD") rows) (given_as (codes "NEW") rows)
    else Applies (given_as (codes "FILE") rows) (first_of (codes "load") rows) (first_of (codes "save") rows)

-- the task that the matches of a subcommand have
abbrev pub task_in : Option (Text × List Row) → Seen
task_in None = Applies [] None None
task_in (Some found) = named_task found.0 found.1

-- where the words are at fault, the error has one of these kinds
abbrev pub IsOfKind : Kinds → LineError → Type 0
IsOfKind kinds (Words e) = IsAmong (kind_of e) kinds
IsOfKind kinds Memory = ⊤

-- the words aren't understood
abbrev pub IsWords : LineError → Type 0
IsWords (Words e) = ⊤
IsWords Memory = ⊥
