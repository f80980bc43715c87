-- The calls that change the mappings of a portmapper (RFC 1833, section 3.2; RFC 5531, section 9).
use Rattle.std.specs.Prelude.{ℕ, List, [], ◌∷◌}
use Rattle.nfs_xdr.specs.Encoding.{numbers_text}
use Rattle.nfs_rpc.specs.Calls.{rpc_version}
use Rattle.nfs_portmap.specs.declared.call.Change.{Change}
use Rattle.nfs_portmap.specs.declared.call.Change.TheVariants.{Set, Unset}
use Rattle.nfs_portmap.specs.declared.call.Mapping.{Mapping}

-- PMAPPROC_SET and PMAPPROC_UNSET
abbrev pub procedure : Change → ℕ
procedure Set = 1
procedure Unset = 2

-- the program, its version, TCP, the port
abbrev pub call_text : ℕ → Change → Mapping → List ℕ
call_text xid change m = numbers_text (xid ∷ 0 ∷ rpc_version ∷ 100000 ∷ 2 ∷ procedure change ∷ 0 ∷ 0 ∷ 0 ∷ 0 ∷ m.program ∷ m.version ∷ 6 ∷ m.port ∷ [])
