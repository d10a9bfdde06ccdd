-- Wrong turns and wrong turned rebuilds, each told from the request's by a value. The proofs are those of proofs/Impostors.antt.
-- Assumes nothing.
use Rattle.std.specs.Prelude.{◌≡◌, [], ◌∷◌}
use Rattle.flat.specs.Cards.{Card, edition_one}
use Rattle.flat.specs.Faults.{accepted, refused}
use Rattle.turning.specs.Faults.{turn_report, turn_buffer, turn_back_buffer, turned_report, turned_stripe}

-- the card of C6: disk 2 has disk 0's strip, and no parity disk names disk 1
abbrev pub C6 : Card
C6 = edition_one (2 ∷ 1 ∷ 1 ∷ 0 ∷ [])

-- Turning the other way, turning back as turning, a second buffer or a stripe of any length, and no look at the card.
pub record TurnTold : Type 0 where
  pub turn : turn_buffer C6 1 1 (10 ∷ 20 ∷ 30 ∷ []) (0 ∷ 0 ∷ 0 ∷ []) ≡ 30 ∷ 10 ∷ 20 ∷ []
  pub back : turn_back_buffer C6 1 1 (10 ∷ 20 ∷ 30 ∷ []) (0 ∷ 0 ∷ 0 ∷ []) ≡ 20 ∷ 30 ∷ 10 ∷ []
  pub whole_strips : turn_buffer C6 2 1 (1 ∷ 2 ∷ 3 ∷ 4 ∷ 5 ∷ 6 ∷ []) (0 ∷ 0 ∷ 0 ∷ 0 ∷ 0 ∷ 0 ∷ []) ≡ 5 ∷ 6 ∷ 1 ∷ 2 ∷ 3 ∷ 4 ∷ []
  pub short_buffer : turn_report C6 1 3 2 ≡ refused 7 []
  pub long_buffer : turn_report C6 1 3 4 ≡ refused 7 []
  pub short_stripe : turn_report C6 1 2 3 ≡ refused 7 []
  pub both_short : turn_report C6 1 2 2 ≡ refused 7 []
  pub six_first : turn_report C6 0 1 1 ≡ refused 6 []
  pub card_first : turn_report (edition_one (17 ∷ 1 ∷ 1 ∷ 0 ∷ [])) 0 1 2 ≡ refused 2 []
  pub kept : turn_buffer C6 1 1 (10 ∷ 20 ∷ 30 ∷ []) (7 ∷ 8 ∷ []) ≡ 7 ∷ 8 ∷ []

-- r cut to 8 bits, to 16 or to 31: stripes 256, 65,536 and 2,147,483,648 are turned, and lose other disks than stripe 0.
pub record EveryBitOfR : Type 0 where
  pub ninth : turn_buffer C6 1 256 (10 ∷ 20 ∷ 30 ∷ []) (0 ∷ 0 ∷ 0 ∷ []) ≡ 30 ∷ 10 ∷ 20 ∷ []
  pub seventeenth : turn_buffer C6 1 65536 (10 ∷ 20 ∷ 30 ∷ []) (0 ∷ 0 ∷ 0 ∷ []) ≡ 30 ∷ 10 ∷ 20 ∷ []
  pub last : turn_buffer C6 1 2147483648 (10 ∷ 20 ∷ 30 ∷ []) (0 ∷ 0 ∷ 0 ∷ []) ≡ 20 ∷ 30 ∷ 10 ∷ []
  pub last_back : turn_back_buffer C6 1 2147483648 (10 ∷ 20 ∷ 30 ∷ []) (0 ∷ 0 ∷ 0 ∷ []) ≡ 30 ∷ 10 ∷ 20 ∷ []
  pub ninth_lost : turned_report C6 1 256 4 (5 ∷ 5 ∷ 7 ∷ []) ≡ refused 11 []
  pub last_lost : turned_report C6 1 2147483648 1 (7 ∷ 5 ∷ 5 ∷ []) ≡ refused 11 []

-- The set not turned, or turned the other way: stripe 1 stores C6's disks 0, 1 and 2 in slots 1, 2 and 0. Slot 2 is fatal, and slot 1 is not, nor is slot 0.
-- The survivors not turned: slots 0 and 1 must be alike. 7 before 8.
pub record RebuildTold : Type 0 where
  pub restored : turned_report C6 1 1 2 (5 ∷ 9 ∷ 7 ∷ []) ≡ accepted (1 ∷ [])
  pub strip : turned_stripe C6 1 1 2 (5 ∷ 9 ∷ 7 ∷ []) ≡ 5 ∷ 5 ∷ 7 ∷ []
  pub parity : turned_stripe C6 1 1 1 (5 ∷ 9 ∷ 7 ∷ []) ≡ 9 ∷ 9 ∷ 7 ∷ []
  pub fatal : turned_report C6 1 1 4 (5 ∷ 5 ∷ 7 ∷ []) ≡ refused 11 []
  pub apart : turned_report C6 1 1 0 (5 ∷ 9 ∷ 5 ∷ []) ≡ refused 12 []
  pub alike : turned_report C6 1 1 0 (5 ∷ 5 ∷ 7 ∷ []) ≡ accepted (0 ∷ [])
  pub card_first : turned_report (edition_one (17 ∷ 1 ∷ 1 ∷ 0 ∷ [])) 0 1 8 [] ≡ refused 2 []
  pub eight_first : turned_report C6 1 1 8 (5 ∷ 5 ∷ []) ≡ refused 8 []
  pub six_first : turned_report C6 0 1 8 (5 ∷ 5 ∷ []) ≡ refused 6 []
  pub seven : turned_report C6 1 1 4 (5 ∷ 5 ∷ []) ≡ refused 7 []
