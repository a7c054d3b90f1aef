-- Every history keeps the three guarantees.
use Rattle.laws.specs.Laws.{HistoriesKeepGuarantees}
use Rattle.laws.proofs.Asks.{asks_are_bounded}
use Rattle.laws.proofs.Rests.{one_resting_place}
use Rattle.laws.proofs.Sharing.{no_client_is_shorted}

pub histories_keep_guarantees : HistoriesKeepGuarantees
histories_keep_guarantees m l h b r =
    record {
      asks_are_bounded = asks_are_bounded m l h b r;
      one_resting_place = one_resting_place m l h b r;
      no_client_is_shorted = no_client_is_shorted m l h b r;
    }
