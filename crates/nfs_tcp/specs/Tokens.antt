-- The tokens by which the system reports clients: that of the listeners is 0, a client's is its key and one.
use Rattle.std.specs.Prelude.{ℕ, ◌-◌, Option, Some, None, nat_eq, if◌then◌else◌}
use Rattle.mio.specs.declared.token.Token.{Token}

abbrev pub client_of : Token → Option ℕ
client_of token = if nat_eq token.0 0 then None else Some (token.0 - 1)
