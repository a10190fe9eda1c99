-- `wagner::keys::Keys::renew` meets its contract.
use Rattle.wagner.proofs.Renewing.{advance_stays}
use Rattle.wagner.proofs.keys.Keys.renew.Goals as goal

pub returns-in-Advance-clause-keys : goal.returns-in-Advance-clause-keys
returns-in-Advance-clause-keys c = rw c.in-Advance.is (advance_stays _ _ _ _ _ _ _)
