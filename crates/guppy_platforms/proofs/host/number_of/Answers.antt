use Rattle.guppy_platforms.proofs.Numbers.{put_at, put_grows, apart}
use Rattle.guppy_platforms.proofs.host.number_of.Goals as goal

pub returns-clause-place : goal.returns-clause-place
returns-clause-place c = put_at c.insert_full.new.self.keys c.args.id c.in_ok-number.number c.in_ok-number.ensures.stored

pub returns-clause-grows : goal.returns-clause-grows
returns-clause-grows c = put_grows c.args.ids.now.keys c.insert_full.new.self.keys c.args.id c.in_ok-number.ensures.keys

pub returns-clause-apart : goal.returns-clause-apart
returns-clause-apart c = apart c.insert_full.new.self.keys c.in_ok-number.ensures.unique
