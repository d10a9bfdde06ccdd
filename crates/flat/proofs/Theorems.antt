-- The proofs of the statements of specs/Theorems.antt and specs/Rebuilt.antt.
-- Assumes nothing.
use native.Mathlib.Omega.{arith}
use Rattle.gf2.proofs.Sizes.{one-left-size}
use Rattle.flat.specs.Cards.{disks}
use Rattle.flat.specs.Theorems
use Rattle.flat.specs.Rebuilt
use Rattle.flat.specs.Spans.{checks}
use Rattle.flat.specs.Erasures.{erasures}
use Rattle.flat.specs.Equations.{equations, Precedes}
use Rattle.flat.proofs.RoundTrip as round
use Rattle.flat.proofs.Words.{codeword-⊕}
use Rattle.flat.proofs.Rows as spans
use Rattle.flat.proofs.Fatal as fatal
use Rattle.flat.proofs.Duality as duality
use Rattle.flat.proofs.Undetermined as unions
use Rattle.flat.proofs.Order.{sorted_at}
use Rattle.flat.proofs.ErasuresListed as listed
use Rattle.flat.proofs.UndeterminedListed as held
use Rattle.flat.proofs.Vector as vectors
use Rattle.flat.proofs.EquationsListed as equated
use Rattle.flat.proofs.Verdicts as verdicts
use Rattle.flat.proofs.Columns as columns
use Rattle.flat.proofs.Told as left
use Rattle.flat.proofs.Agreement as agreement
use Rattle.flat.proofs.Consistency as consistency
use Rattle.flat.proofs.Rebuilds as rebuilds

pub card_reads_back : Theorems.CardReadsBack
card_reads_back = round.reads_back

pub card_writes_back : Theorems.CardWritesBack
card_writes_back = round.writes_back

pub codeword_linear : Theorems.CodewordLinear
codeword_linear = codeword-⊕

pub rows_span : Theorems.RowsSpan
rows_span = spans.rows_span

pub checks_span : Theorems.ChecksSpan
checks_span = spans.checks_span

pub spans_independent : Theorems.SpansIndependent
spans_independent C = (spans.rows-indep C, spans.checks-indep C)

pub fatal-holds-codeword : Theorems.FatalHoldsCodeword
fatal-holds-codeword C S = (fatal.fatal_out C S, λ r. fatal.fatal_in C S r.0 r.1 r.2 r.3)

pub fatal_leaves_row : Theorems.FatalLeavesRow
fatal_leaves_row = fatal.fatal-left

pub duality-holds : Theorems.Duality
duality-holds = duality.fatal-untold

pub undetermined-held : Theorems.UndeterminedHeld
undetermined-held = duality.undetermined-held

pub undetermined-untold : Theorems.UndeterminedUntold
undetermined-untold = duality.undetermined-untold

pub undetermined-union : Theorems.UndeterminedUnion
undetermined-union C S = (unions.undetermined-set C S, unions.undetermined-union C S)

pub fatal-undetermined : Theorems.FatalUndetermined
fatal-undetermined = unions.fatal-undetermined

pub undetermined-lost : Theorems.UndeterminedLost
undetermined-lost = unions.undetermined-lost

pub determined-rest : Theorems.DeterminedRest
determined-rest C S d = (unions.determined_out C S d, λ p. unions.determined_in C S d p.0 p.1)

pub erasures-exact : Theorems.ErasuresExact
erasures-exact C S = (listed.erasures_out C S, λ p. listed.erasures_in C S p.0 p.1)

pub erasures-ordered : Theorems.ErasuresOrdered
erasures-ordered C = sorted_at (listed.Before C) (erasures C) (listed.erasures_sorted C)

pub one_per_data_part : Theorems.OnePerDataPart
one_per_data_part = listed.one_per_data_part

pub fatal-holds-listed : Theorems.FatalHoldsListed
fatal-holds-listed = listed.fatal-listed

pub undetermined-listed : Theorems.UndeterminedListed
undetermined-listed C S d = held.undetermined-listed C d S

pub erasures_enumerated : Theorems.ErasuresEnumerated
erasures_enumerated = listed.erasures_enumerated

pub entry-sizes : Theorems.EntrySizes
entry-sizes = vectors.entry-sizes

pub vector-total : Theorems.VectorTotal
vector-total C = (vectors.vector-length C, vectors.vector-total C)

pub vector-answered : Theorems.VectorAnswered
vector-answered = vectors.vector-answered

pub equations-exact : Theorems.EquationsExact
equations-exact C d E = (equated.equations_out C d E, λ p. equated.equations_in C d E p.0 p.1)

pub equations-ordered : Theorems.EquationsOrdered
equations-ordered C d = sorted_at (Precedes C) (equations C d) (equated.equations_sorted C d)

pub equations-counted : Theorems.EquationsCounted
equations-counted = equated.equations-counted

pub equations-only : Theorems.EquationsOnly
equations-only = equated.equations-only

pub equation-holds-listed : Theorems.EquationHoldsListed
equation-holds-listed = equated.equation-listed

pub equations_enumerated : Theorems.EquationsEnumerated
equations_enumerated = equated.equations_enumerated

pub no-equation_empty : Theorems.NoEquationEmpty
no-equation_empty = columns.no-equation_empty

pub no-column-no-equation : Theorems.NoColumnNoEquation
no-column-no-equation = columns.no-column-no-equation

pub minimal-sizes : Theorems.MinimalSizes
unfolding disks
minimal-sizes C w = (
  vectors.word_size C w,
  λ s e. omega (arith, one-left-size (disks C) (checks C) (λ v t. ((spans.checks_span C v).0 t).0) w s e, spans.checks-length C),
)

pub equation-listed : Theorems.EquationListed
equation-listed = verdicts.equation-listed

pub long_slices_accepted : Theorems.LongSlicesAccepted
long_slices_accepted = verdicts.long_slices_accepted

-- ---- rebuilding

pub equation-left : Rebuilt.EquationLeft
equation-left = left.equation-left

pub no-equation-left : Rebuilt.NoEquationLeft
no-equation-left = left.no-equation-left

pub restored-filled : Rebuilt.RestoredFilled
restored-filled = agreement.restored-filled

pub all-determined : Rebuilt.AllDetermined
all-determined = unions.all-determined

pub each-equation-left : Rebuilt.EachEquationLeft
each-equation-left = left.each-equation-left

pub all-restored-filled : Rebuilt.AllRestoredFilled
all-restored-filled = agreement.all-restored-filled

pub consistent-agrees : Rebuilt.ConsistentAgrees
consistent-agrees = consistency.consistent-agrees

pub one-strip : Rebuilt.OneStrip
one-strip = agreement.one-strip

pub only-content : Rebuilt.OnlyContent
only-content = agreement.only-content

pub lost-bytes_unread : Rebuilt.LostBytesUnread
lost-bytes_unread = rebuilds.lost-bytes_unread
