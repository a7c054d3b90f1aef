-- A price that tells the same of every offer.
--
-- flat      what it tells
-- flat_is   that it is lawful; it stands here, since an impl cites no proofs/ of its own crate
use Rattle.std.specs.Prelude.{refl}
use Rattle.std.proofs.Common.{le_refl, suc-le-suc, zero-le}
use Rattle.rules.specs.Offers.{Meaning, Lawful}

abbrev pub flat : Meaning
flat _ = record { class = 0; top = 1; bottom = 1 }

pub flat_is : Lawful flat
flat_is =
    record {
      in_range = λ o v.
          record {
            low_class = zero-le;
            some_top = le_refl 1;
            few_top = suc-le-suc zero-le;
            some_bottom = le_refl 1;
            few_bottom = suc-le-suc zero-le;
          };
      one_class = λ o j k v w. refl;
      falling = λ o j k v w h. le_refl 1;
    }
