-- Document 01, "Record file".
-- A record is a container file: a table of contents, then the card and the strips that are not lost. Multi-byte numbers stand low
-- byte first. Entry 0 is the card's, entry i + 1 that of disk i.
-- Assumes nothing.
use Rattle.std.specs.Prelude.{Bool, not, ◌&&◌, List, [], ◌∷◌, ◌++◌, ℕ, suc, ◌+◌, ◌*◌, eqb, leb, length, get_or, take, drop, if◌then◌else◌}
use Rattle.gf2.specs.Sets.{has}
use Rattle.flat.specs.Lists.{every, count, set_of, range, each, same, bytes, field}
use Rattle.flat.specs.Cards.{Code, disks, card_length}

-- ---- what is written

abbrev pub mark : List ℕ
mark = 0x46 ∷ 0x58 ∷ 0x43 ∷ 0x31 ∷ []

-- E, how many entries the contents of n disks have
unfoldable pub entry_count : ℕ → ℕ
entry_count n = n + 1

-- where the bodies start, after ten bytes and E entries of ten
unfoldable pub bodies_at : ℕ → ℕ
bodies_at E = 10 + 10 * E

-- where the first strip's body starts, for n disks: after the contents and a card of so many bytes
unfoldable pub strips_at : ℕ → ℕ → ℕ
unfolding bodies_at entry_count
strips_at n len = bodies_at (entry_count n) + len

-- where the body of disk i starts, that of the first strip at `start`: after the strips of the disks below i that are not lost
unfoldable pub body_at : ℕ → ℕ → ℕ → ℕ → ℕ
unfolding count has
body_at start L S i = start + L * count i (λ d. not (has S d))

-- T, the record's length: the contents, the card, and L for each disk that is not lost
unfoldable pub record_length : Code → ℕ → ℕ → ℕ
unfolding body_at strips_at disks card_length
record_length C L S = body_at (strips_at (disks C) (card_length C.m)) L S (disks C)

-- an entry: kind (0 card, 1 strip, 2 lost strip), disk, offset, length
unfoldable pub entry : ℕ → ℕ → ℕ → ℕ → List ℕ
unfolding bytes
entry kind disk offset len = kind ∷ disk ∷ (bytes 4 offset ++ bytes 4 len)

-- the entry of disk i, and its body
unfoldable pub strip_entry : ℕ → ℕ → ℕ → ℕ → List ℕ
unfolding has entry body_at
strip_entry start L S i = if has S i then entry 2 i 0 0 else entry 1 i (body_at start L S i) L

unfoldable pub strip_body : ℕ → ℕ → List ℕ → ℕ → List ℕ
unfolding has
strip_body L S stripe i = if has S i then [] else take L (drop (i * L) stripe)

-- the record of a stripe of n disks, of which S are lost, with its card's bytes
unfoldable pub record_bytes : List ℕ → ℕ → ℕ → ℕ → List ℕ → List ℕ
unfolding bytes entry_count entry bodies_at each strip_entry strips_at range strip_body
record_bytes card n L S stripe =
    mark ++ bytes 4 L ++ bytes 2 (entry_count n)
    ++ entry 0 0 (bodies_at (entry_count n)) (length card) ++ each (strip_entry (strips_at n (length card)) L S) (range 0 n)
    ++ card ++ each (strip_body L S stripe) (range 0 n)

-- ---- what is read

unfoldable pub length_in : List ℕ → ℕ
unfolding field
length_in file = field 4 4 file

unfoldable pub entry_count_in : List ℕ → ℕ
unfolding field
entry_count_in file = field 8 2 file

-- the ten bytes of entry e, and the offset and the length that it names
unfoldable pub entry_in : List ℕ → ℕ → List ℕ
entry_in file e = take 10 (drop (10 + 10 * e) file)

unfoldable pub offset_in : List ℕ → ℕ → ℕ
unfolding field entry_in
offset_in file e = field 2 4 (entry_in file e)

unfoldable pub body_length_in : List ℕ → ℕ → ℕ
unfolding field entry_in
body_length_in file e = field 6 4 (entry_in file e)

-- the body that entry e names
unfoldable pub body_in : List ℕ → ℕ → List ℕ
unfolding offset_in body_length_in
body_in file e = take (body_length_in file e) (drop (offset_in file e) file)

-- ten bytes and the mark
unfoldable pub mark_ok : List ℕ → Bool
unfolding same
mark_ok file = leb 10 (length file) && same (take 4 file) mark

-- E is 3 to 33, and no entry lies past the end
unfoldable pub entries_ok : List ℕ → Bool
unfolding entry_count_in bodies_at
entries_ok file =
    leb 3 (entry_count_in file) && leb (entry_count_in file) 33 && leb (bodies_at (entry_count_in file)) (length file)

-- the card's entry: kind 0, disk 0, the body after the contents and not past the end
unfoldable pub card_entry_ok : List ℕ → Bool
unfolding entry_in offset_in body_length_in bodies_at entry_count_in
card_entry_ok file =
    eqb (get_or (entry_in file 0) 0 0) 0 && eqb (get_or (entry_in file 0) 1 0) 0
    && eqb (offset_in file 0) (bodies_at (entry_count_in file)) && leb (offset_in file 0 + body_length_in file 0) (length file)

-- the lost set: those of n disks whose entry has kind 2
unfoldable pub lost_in : ℕ → List ℕ → ℕ
unfolding set_of entry_in
lost_in n file = set_of n (λ i. eqb (get_or (entry_in file (suc i)) 0 0) 2)

-- each of n disks has the entry that is written for it
unfoldable pub strip_entries_ok : ℕ → ℕ → ℕ → ℕ → List ℕ → Bool
unfolding every same entry_in strip_entry
strip_entries_ok n start L S file = every n (λ i. same (entry_in file (suc i)) (strip_entry start L S i))
