use Rattle.std.proofs.Common.{◌≡◌, ℕ, List, [], ◌∷◌, ◌++◌, length, map, Some, None, sym, ap, ◌∙◌, arith, rules, Bor}
use Rattle.std.specs.Str.Lines.{lines}
use Rattle.std.proofs.lemmas.Iterator.Consumers.{YieldsList-end, YieldsList-turn, YieldsList-so_far}
use Rattle.std.proofs.lemmas.Iterator.Splits.{YieldsList-from_lines}
use Rattle.std.proofs.lemmas.List.{length-map, map-append}
use Rattle.guppy_target.specs.Reading.{line_at}
use Rattle.guppy_target.specs.Platform.{setting_of}
use Rattle.guppy_target.proofs.Lines.{line_takes, AreLines-more, AreLines-length, first_fault}
use Rattle.guppy_target.proofs.platform.Platform.new.Goals as goal

pub returns-clause-settings : goal.returns-clause-settings
returns-clause-settings c =
    let all = YieldsList-end (YieldsList-from_lines c.args.cfgs.now cc) c.loop-line.yielded _ c.loop-line.yielded_by _ _ c.in-None.is c.next.ensures.steps in
    rw all.0 at c.loop-line.invariant

pub loop-line-preserved : goal.loop-line-preserved
loop-line-preserved c =
    let l = c.loop-line in
    let made = c.in_ok-cfg_of-in-Some-parts in
    let is : line_at c.in-Some.line.now ≡ Some (setting_of made.field-0) = ap line_at (sym c.as_bytes.ensures.value) ∙ sym c.in-Some-parts.ensures ∙ ap Some (sym made.ensures) in
    let pushed : c.push.new.self.items ≡ l.found.items ++ made.field-0 ∷ [] = search rules in
    let more = AreLines-more (map (λ line. line.now) l.yielded) (map setting_of l.found.items) c.in-Some.line.now (setting_of made.field-0) l.invariant (line_takes c.in-Some.line.now (setting_of made.field-0) is) in
    rw (pushed, map-append, map-append) more

pub returns-in-None-parts-clause-fault : goal.returns-in-None-parts-clause-fault
returns-in-None-parts-clause-fault c n is =
    let l = c.loop-line in
    let road = YieldsList-from_lines c.args.cfgs.now cc in
    let turn = YieldsList-turn road l.yielded _ l.yielded_by _ _ c.in-Some.line c.in-Some.is c.next.ensures.steps in
    let front = YieldsList-so_far road l.yielded _ l.yielded_by in
    let none : line_at c.in-Some.line.now ≡ None = ap line_at (sym c.as_bytes.ensures.value) ∙ sym c.in-None-parts.ensures in
    let many = AreLines-length (map (λ line. line.now) l.yielded) (map setting_of l.found.items) l.invariant in
    let a : length (map (λ (line : Bor (List ℕ)). line.now) l.yielded) ≡ length l.yielded = simp length-map in
    let b : length (map setting_of l.found.items) ≡ length l.found.items = simp length-map in
    let len : c.len.result ≡ length l.found.items = search rules in
    let same : n ≡ c.len.result = cc in
    first_fault (lines c.args.cfgs.now) (map (λ line. line.now) l.yielded) (map setting_of l.found.items) (length l.yielded) n c.in-Some.line.now l.invariant front turn.0 turn.1 none (omega arith)
