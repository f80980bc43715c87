-- Exports that are put in force one after another.
use Rattle.std.proofs.Common.{◌≡◌, ◌⊎◌, List, inl, inr, ap, ◌∙◌}
use Rattle.nfs_server.specs.Fits.{Held, with_exports}
use Rattle.nfs_loop.specs.Attending.{MayReload}

pub reload_then : (a b c : Held) → MayReload a b → MayReload b c → MayReload a c
reload_then a b c (inl same) (inl too) = inl (too ∙ same)
reload_then a b c (inl same) (inr (exports, to)) = inr (exports, to ∙ ap (with_exports exports) same)
reload_then a b c (inr (exports, to)) (inl too) = inr (exports, too ∙ to)
reload_then a b c (inr (first, to)) (inr (exports, too)) = inr (exports, too ∙ ap (with_exports exports) to)
