use Rattle.std.proofs.Common.{◌∙◌, refl, sym, ap}
use Rattle.std.proofs.lemmas.Option.{slice_get_past, slice_get_read}
use Rattle.std.specs.Option.{option_and_then, option_copied}
use Rattle.guppy_graph.proofs.keys.Keys.text_at.Goals as goal

pub returns-in-Some : goal.returns-in-Some
returns-in-Some g c =
    let look = c.in-Some.ensures.lookup in
    c.args.self.now.own c.args.position c.in-Some.text.now (slice_get_read c.args.self.now.texts.now _ c.args.position c.in-Some.text.now refl look.3.0 look.1)

pub returns-in_ok-get-in-None : goal.returns-in_ok-get-in-None
returns-in_ok-get-in-None g c =
    let look = c.in_ok-get-in-None.ensures.lookup in
    c.text_of.ensures ∙ ap (option_and_then g.K.Key.text_of) (sym (slice_get_read c.args.self.now.packages.now _ c.args.position _ refl look.3.0 look.1))

pub returns-in_err-get-in-None : goal.returns-in_err-get-in-None
returns-in_err-get-in-None g c =
    ap option_copied c.from_residual.ensures ∙ ap (option_and_then g.K.Key.text_of) (sym (slice_get_past c.args.self.now.packages.now c.args.position c.in_err-get-in-None.ensures.lookup.3))
