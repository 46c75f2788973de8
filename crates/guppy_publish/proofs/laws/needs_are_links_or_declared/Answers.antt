use Rattle.guppy_publish.proofs.FirmLinks.{firm_before, firm_after}
use Rattle.guppy_publish.proofs.laws.needs_are_links_or_declared.Goals as goal

pub returns : goal.returns
returns c declared links needs are pair = (firm_before declared links needs are pair, firm_after declared links needs are pair)
