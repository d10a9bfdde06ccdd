-- What gf2 proves about sets, spans and `within`. The proofs are those of proofs/Theorems.antt.
-- Assumes nothing.
use Rattle.std.specs.Prelude.{◌≡◌, ◌⊎◌, ◌↔◌, List, ℕ, ◌+◌, ◌^◌, ◌≤◌, ◌<◌, T, ltb, length, get_or}
use Rattle.gf2.specs.Sets.{has, size, first, ◌⊕◌, ◌⊆◌, union}
use Rattle.gf2.specs.Span.{InSpan, Independent, select, Minimal}
use Rattle.gf2.specs.Within.{within}

-- A set is inside another where each of its disks is in the other.
abbrev pub Subset : Type 0
Subset = (R S : ℕ) → T (R ⊆ S) ↔ ((i : ℕ) → T (has R i) → T (has S i))

-- Two sets with the same disks are one.
abbrev pub Extensional : Type 0
Extensional = (R S : ℕ) → ((i : ℕ) → has R i ≡ has S i) → R ≡ S

-- A disk is in R ⊕ S where it is in just one of the two.
abbrev pub JustOne : Type 0
JustOne =
    (R S i : ℕ) → T (has (R ⊕ S) i) ↔ ((T (has R i) × (T (has S i) → ⊥)) ⊎ (T (has S i) × (T (has R i) → ⊥)))

-- Disk i is in `first n` where it is below n.
abbrev pub FirstDisks : Type 0
FirstDisks = (n i : ℕ) → has (first n) i ≡ ltb i n

-- A disk is in the union of some rows where one of them holds it.
abbrev pub UnionRows : Type 0
UnionRows = (bs : List ℕ) (d : ℕ) → T (has (union bs) d) ↔ ((i : ℕ) × (i < length bs) × T (has (get_or bs i 0) d))

-- And where some word of their span holds it: the union of the rows is that of the span.
abbrev pub UnionSpan : Type 0
UnionSpan = (bs : List ℕ) (d : ℕ) → T (has (union bs) d) ↔ ((w : ℕ) × InSpan bs w × T (has w d))

-- What x ⊕ y selects is what x selects, XORed with what y selects.
abbrev pub SelectLinear : Type 0
SelectLinear = (bs : List ℕ) (x y : ℕ) → select bs (x ⊕ y) ≡ select bs x ⊕ select bs y

-- The words of a span are those that some number selects, one bit for each row.
abbrev pub SpanSelected : Type 0
SpanSelected = (bs : List ℕ) (w : ℕ) → InSpan bs w ↔ ((x : ℕ) × (x < 2 ^ length bs) × (select bs x ≡ w))

-- What `within` leaves spans exactly the words of the span that lie inside the set.
abbrev pub WithinSpans : Type 0
WithinSpans = (S : ℕ) (bs : List ℕ) (w : ℕ) → InSpan (within S bs) w ↔ (InSpan bs w × T (w ⊆ S))

-- What `within` leaves of independent rows is independent.
abbrev pub WithinIndependent : Type 0
WithinIndependent = (S : ℕ) (bs : List ℕ) → Independent bs → Independent (within S bs)

-- A word of the span of independent rows is minimal exactly where one row is left inside it.
abbrev pub MinimalIsOneRow : Type 0
MinimalIsOneRow = (bs : List ℕ) (w : ℕ) → Independent bs → InSpan bs w → Minimal bs w ↔ (length (within w bs) ≡ 1)

-- Where the rows hold disks below n, a word inside which one row is left holds at most n + 1 disks less one for each row.
abbrev pub MinimalSize : Type 0
MinimalSize =
    (n : ℕ) (bs : List ℕ) → ((v : ℕ) → InSpan bs v → v < 2 ^ n) → (w : ℕ) → InSpan bs w → length (within w bs) ≡ 1
    → length bs + size w ≤ n + 1
