-- What comes of bytes of which nothing is known.
use Rattle.std.proofs.Common.{ℕ, List, length, None, refl}
use Rattle.nfs_xdr.specs.Known.{Receives}
use Rattle.nfs_xdr.specs.declared.link.Came.{Came}
use Rattle.nfs_xdr.specs.declared.link.Came.TheVariants.{Bytes, Nothing, End}
use Rattle.nfs_tcp.specs.Unwaiting.{CameInto}

pub receives_unknown : (room : List ℕ) (came : Came) → CameInto (length room) came → Receives None room came None
receives_unknown room (Bytes n) fits = (fits.0, fits.1, λ before e. cc)
receives_unknown room Nothing fits = refl
receives_unknown room End fits = (refl, λ bytes e. cc)
