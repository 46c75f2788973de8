use Rattle.std.proofs.Common.{◌∙◌, length, sym, ap}
use Rattle.std.proofs.lemmas.Slice.Zip.{AllZip-long}
use Rattle.guppy_platforms.specs.Host.{IsMark}
use Rattle.guppy_platforms.proofs.kept.keep_counting.Goals as goal

pub leave_all-requires : goal.leave_all-requires
leave_all-requires c =
    let links = c.as_slice.result.now in
    ap length c.as_slice-2.ensures.value ∙ (AllZip-long (IsMark c.args.packages.now links) links c.in_ok-marks.marks.items c.in_ok-marks.ensures ∙ (ap length c.as_slice.ensures.value ∙ sym (ap length c.as_mut_slice.ensures.value)))
