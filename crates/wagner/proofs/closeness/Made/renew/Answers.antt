-- `wagner::closeness::Made::renew` meets its contract.
use Rattle.wagner.proofs.Renewing.{row_renewed}
use Rattle.wagner.proofs.closeness.Made.renew.Goals as goal

pub returns : goal.returns
returns c = row_renewed _ _ _ c.args.self.now.taxa _ _ _ _ _ c.keep_three.ensures _ c.least_kept.ensures
