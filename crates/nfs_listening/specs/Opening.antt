-- Which address the faults of a service name, and as what they are reported.
use Rattle.std.specs.Prelude.{◌≡◌, ℕ, ◌<◌, List, [], ◌∷◌, Some, slice_get}
use Rattle.std.specs.Net.Addr.{MatchIp, IsLoopbackV4, IsLoopbackV6, ipv4_octets}
use Rattle.std.specs.declared.alloc.AllocError.{AllocError}
use Rattle.std.specs.declared.net.ip_addr.IpAddr.{IpAddr}
use Rattle.std.specs.declared.net.socket_addr.SocketAddr.{SocketAddr}
use Rattle.nfs_source.specs.declared.fault.Fault.{Fault}
use Rattle.nfs_source.specs.declared.fault.Fault.TheVariants.{Network as AtNetwork, Write as AtWrite, Memory as NoMemory}
use Rattle.nfs_tcp.specs.declared.service_fault.ServiceFault.{ServiceFault}
use Rattle.nfs_tcp.specs.declared.service_fault.ServiceFault.TheVariants.{Network, Write, Memory}

-- an address that no other machine can reach
abbrev pub IsLoopback : IpAddr → Type 0
IsLoopback ip = MatchIp ip IsLoopbackV4 IsLoopbackV6

-- 127.0.0.1
abbrev pub IsLocalhost : IpAddr → Type 0
IsLocalhost ip = MatchIp ip (λ a. ipv4_octets a ≡ 127 ∷ 0 ∷ 0 ∷ 1 ∷ []) (λ a. ⊥)

-- the addresses of the first so many places are loopback addresses
abbrev pub AreLoopbacks : List IpAddr → ℕ → Type 0
AreLoopbacks addresses count = (k : ℕ) (ip : IpAddr) → k < count → slice_get addresses k ≡ Some ip → IsLoopback ip

-- the first of some addresses that other machines can reach
pub record IsFirstOpen (addresses : List IpAddr) (ip : IpAddr) : Type 0 where
  pub place : ℕ
  pub stands : slice_get addresses place ≡ Some ip
  pub reachable : IsLoopback ip → ⊥
  pub before : AreLoopbacks addresses place

-- a fault of a service at an address is reported so; of an `AllocError` there is one alone
abbrev pub IsReportedAt : SocketAddr → ServiceFault → Fault → Type 0
IsReportedAt address (Network error) fault = fault ≡ AtNetwork address error
IsReportedAt address Write fault = fault ≡ AtWrite
IsReportedAt address Memory fault = (refused : AllocError) × (fault ≡ NoMemory refused)
