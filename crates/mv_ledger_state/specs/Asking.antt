-- What a payload that was read asks.
use Rattle.std.specs.Prelude.{List, map}
use Rattle.mv_machine.specs.Ledger.{Offer, RunRequest}
use Rattle.mv_machine.specs.Arguments.{arg_value}
use Rattle.mv_ledger_state.specs.declared.payload.Offered.{Offered}
use Rattle.mv_ledger_state.specs.declared.payload.RunRecord.{RunRecord}

-- the module that is offered, with its certificate
abbrev pub offer_of : Offered → Offer
offer_of o = record { text = o.text.now; certificate = o.certificate.now }

-- the modules of a bundle
abbrev pub offers_of : List Offered → List Offer
offers_of = map offer_of

-- the run that is asked for
abbrev pub request_of : RunRecord → RunRequest
request_of r = record {
  sender = r.sender;
  home = record { address = r.home; name = r.«module».now };
  function = r.function.now;
  budget = r.budget;
  arguments = map arg_value r.arguments.items;
}
