-- The address of a peer: that of IPv4, or the one that an address of IPv6 stands for (::ffff:a.b.c.d; RFC 4291, section 2.5.5.2). Another has none.
use Rattle.std.specs.Prelude.{◌≡◌, Option, Some, None}
use Rattle.std.specs.Int.{w32, from_be_bytes}
use Rattle.std.specs.Net.Addr.{ipv4_octets, ipv6_segments, low_octets, IsIpv4Mapped}
use Rattle.std.specs.declared.net.ip_addr.IpAddr.{IpAddr}
use Rattle.std.specs.declared.net.ip_addr.IpAddr.TheVariants.{V4, V6}
use Rattle.nfs_exports.specs.declared.addr.Addr.{Addr}

abbrev pub IsAddrOf : IpAddr → Option Addr → Type 0
IsAddrOf (V4 ip) (Some addr) = addr.0 ≡ from_be_bytes w32 (ipv4_octets ip)
IsAddrOf (V4 ip) None = ⊥
IsAddrOf (V6 ip) (Some addr) = IsIpv4Mapped (ipv6_segments ip) × (addr.0 ≡ from_be_bytes w32 (low_octets ip))
IsAddrOf (V6 ip) None = IsIpv4Mapped (ipv6_segments ip) → ⊥
