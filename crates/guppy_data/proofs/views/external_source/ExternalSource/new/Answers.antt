use Rattle.std.proofs.Common.{codes, ap, option_map, is_some}
use Rattle.guppy_data.specs.ExternalSource.{Registry, Sparse, Git, seen_request, seen_source}
use Rattle.guppy_data.proofs.Sources.{front_from_strip, IsSource-from_cuts, only_source, has_source, no_source, not_accepted, printed_source-is}
use Rattle.guppy_data.proofs.views.external_source.ExternalSource.new.Goals as goal

pub returns-in-Some-clause-refused : goal.returns-in-Some-clause-refused
returns-in-Some-clause-refused c =
    has_source c.args.text.now (Registry c.in-Some.url.now) (front_from_strip (codes "registry+") c.args.text.now c.in-Some.url.now c.in-Some.ensures.cases)

pub returns-in-Some-strip_prefix-clause-refused : goal.returns-in-Some-strip_prefix-clause-refused
returns-in-Some-strip_prefix-clause-refused c =
    has_source c.args.text.now (Sparse c.in-Some-strip_prefix.url.now) (front_from_strip (codes "sparse+") c.args.text.now c.in-Some-strip_prefix.url.now c.in-Some-strip_prefix.ensures.cases)

pub returns-in_err-front-clause-accepted : goal.returns-in_err-front-clause-accepted
returns-in_err-front-clause-accepted c =
    not_accepted c.args.text.now (option_map seen_source c.from_residual-in_err-front.result) (ap (option_map seen_source) c.from_residual-in_err-front.ensures) (no_source c.args.text.now c.in_ok-rest.rest.now c.in_ok-rest.ensures.cases c.in_err-front.ensures.cases)

pub returns-in_err-front-clause-refused : goal.returns-in_err-front-clause-refused
returns-in_err-front-clause-refused c =
    (λ _. no_source c.args.text.now c.in_ok-rest.rest.now c.in_ok-rest.ensures.cases c.in_err-front.ensures.cases, λ _. ap is_some c.from_residual-in_err-front.ensures)

pub returns-clause-accepted : goal.returns-clause-accepted
returns-clause-accepted c =
    only_source c.args.text.now (Git c.cut_off.result.0.now (seen_request c.cut_off.result.1) c.in_ok-front.resolved.now) (IsSource-from_cuts c.args.text.now c.in_ok-rest.rest.now c.in_ok-front.front.now c.in_ok-front.resolved.now c.cut_off.result.0.now (seen_request c.cut_off.result.1) c.in_ok-rest.ensures.cases c.in_ok-front.ensures.cases c.cut_off.ensures)

pub returns-clause-refused : goal.returns-clause-refused
returns-clause-refused c =
    has_source c.args.text.now (Git c.cut_off.result.0.now (seen_request c.cut_off.result.1) c.in_ok-front.resolved.now) (IsSource-from_cuts c.args.text.now c.in_ok-rest.rest.now c.in_ok-front.front.now c.in_ok-front.resolved.now c.cut_off.result.0.now (seen_request c.cut_off.result.1) c.in_ok-rest.ensures.cases c.in_ok-front.ensures.cases c.cut_off.ensures)

pub returns-clause-printed_back : goal.returns-clause-printed_back
returns-clause-printed_back c =
    printed_source-is c.args.text.now (Git c.cut_off.result.0.now (seen_request c.cut_off.result.1) c.in_ok-front.resolved.now) (IsSource-from_cuts c.args.text.now c.in_ok-rest.rest.now c.in_ok-front.front.now c.in_ok-front.resolved.now c.cut_off.result.0.now (seen_request c.cut_off.result.1) c.in_ok-rest.ensures.cases c.in_ok-front.ensures.cases c.cut_off.ensures)
