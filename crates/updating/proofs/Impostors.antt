-- The wrong updates computed beside the request's.
-- Assumes nothing.
use mathlib.Core.Path.{refl}
use Rattle.flat.specs.Lists.{put}
use Rattle.flat.specs.Strips.{encoded}
use Rattle.updating.specs.Updating.{change, updated}
use Rattle.updating.specs.Impostors.{NotEncodedAfresh, OldStripRead, EachNamingParity}

pub not-encoded-afresh : NotEncodedAfresh
unfolding updated change encoded put
not-encoded-afresh = (refl, refl)

pub old_strip-read : OldStripRead
unfolding updated change put
old_strip-read = (refl, refl)

pub each-naming-parity : EachNamingParity
unfolding updated change
each-naming-parity = (refl, refl)
