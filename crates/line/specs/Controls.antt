-- Document 01, "Characters and checksum": the control characters.
use Rattle.std.specs.Prelude.{ℕ}

abbrev pub SOH : ℕ
SOH = 0x01

abbrev pub STX : ℕ
STX = 0x02

abbrev pub ETX : ℕ
ETX = 0x03

abbrev pub ACK : ℕ
ACK = 0x06

abbrev pub LF : ℕ
LF = 0x0A

abbrev pub CR : ℕ
CR = 0x0D

abbrev pub NAK : ℕ
NAK = 0x15
