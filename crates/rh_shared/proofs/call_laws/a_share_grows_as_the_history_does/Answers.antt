use Rattle.rh_shared.proofs.GrownShares.{share-grows}
use Rattle.rh_shared.proofs.call_laws.a_share_grows_as_the_history_does.Goals as goal

pub returns : goal.returns
returns g c = share-grows
