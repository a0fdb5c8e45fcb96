-- Where a server listens, by the options of `dsheet serve`.
use Rattle.std.specs.Prelude.{◌≡◌, List, Option, Some, None, codes}
use Rattle.std.specs.Net.Addr.{MatchIp, IsLoopbackV4, IsLoopbackV6}
use Rattle.std.specs.Net.Socket.{socket_ip}
use Rattle.std.specs.Net.Grammar.{IsSocketText}
use Rattle.std.specs.declared.net.socket_addr.SocketAddr.{SocketAddr}
use Rattle.clap.specs.Words.{Row, Text, first_of, one_of}
use Rattle.ds_cli.specs.declared.addresses.Addresses.{Addresses}
use Rattle.ds_cli.specs.declared.addresses.Addresses.TheVariants as at
use Rattle.ds_cli.specs.declared.addresses.Unheard.{Unheard}
use Rattle.ds_cli.specs.declared.addresses.Unheard.TheVariants as unheard

-- the option of this name has an address with a port as its value, and it is this one
pub record IsAddressOf (rows : List Row) (name : Text) (address : SocketAddr) : Type 0 where
  pub text : Text
  pub has : first_of name rows ≡ Some text
  pub spells : IsSocketText text address

-- the option of this name, where it is given, has an address with a port as its value, and it is this one
abbrev pub IsGivenAddress : List Row → Text → Option SocketAddr → Type 0
IsGivenAddress rows name None = first_of name rows ≡ None
IsGivenAddress rows name (Some address) = IsAddressOf rows name address

-- the address is one of this machine alone
abbrev pub IsLoopback : SocketAddr → Type 0
IsLoopback address = MatchIp (socket_ip address) IsLoopbackV4 IsLoopbackV6

-- whoever reaches the address may join a process: it is one of this machine alone, there is a token, or `--open` says so
abbrev pub MayListen : List Row → SocketAddr → Type 0
MayListen matches address = (IsLoopback address → ⊥) → first_of (codes "token-file") matches ≡ None → one_of (codes "open") matches ≡ Some (codes "true")

-- the option of this name has an address of other machines, too, where there is no token, and `--open` does not say so
pub record IsOpen (matches : List Row) (name : Text) : Type 0 where
  pub address : SocketAddr
  pub listen : IsAddressOf matches name address
  pub wide : IsLoopback address → ⊥
  pub no_token : first_of (codes "token-file") matches ≡ None
  pub unasked : one_of (codes "open") matches ≡ Some (codes "true") → ⊥

-- the option of this name has no address with a port as its value
abbrev pub HasNoAddress : List Row → Text → Type 0
HasNoAddress rows name = (a : SocketAddr) → IsAddressOf rows name a → ⊥

-- the option of this name is given, and has no address with a port as its value
pub record HasBadAddress (rows : List Row) (name : Text) : Type 0 where
  pub text : Text
  pub has : first_of name rows ≡ Some text
  pub none : HasNoAddress rows name

-- where a server listens by the option of this name: at its address, where nobody else may reach it and edit; or nowhere, where
-- the option is not given
abbrev pub ListensBy : List Row → Text → Option SocketAddr → Type 0
ListensBy matches name None = first_of name matches ≡ None
ListensBy matches name (Some address) = IsAddressOf matches name address × MayListen matches address

-- where it listens for lines, if it does
abbrev pub lines_at : Addresses → Option SocketAddr
lines_at (at.Lines lines) = Some lines
lines_at (at.Http http) = None
lines_at (at.Both lines http) = Some lines

-- where it listens for HTTP, if it does
abbrev pub http_at : Addresses → Option SocketAddr
http_at (at.Lines lines) = None
http_at (at.Http http) = Some http
http_at (at.Both lines http) = Some http

-- the first of the addresses: that for lines, if it listens for them, else that for HTTP
abbrev pub first_at : Addresses → SocketAddr
first_at (at.Lines lines) = lines
first_at (at.Http http) = http
first_at (at.Both lines http) = lines

-- it listens as both options say
pub record ListensAt (matches : List Row) (addresses : Addresses) : Type 0 where
  pub lines : ListensBy matches (codes "listen") (lines_at addresses)
  pub http : ListensBy matches (codes "http") (http_at addresses)

-- why it does not listen at the address of the option of this name
abbrev pub IsUnheard : List Row → Text → Unheard → Type 0
IsUnheard matches name unheard.NoAddress = HasBadAddress matches name
IsUnheard matches name unheard.Open = IsOpen matches name
