-- Document 01, the lines of "Deciding a frame": a data set, its address, and the line that shows it.
use Rattle.std.specs.Prelude.{Bool, cond, List, [], ◌∷◌, ◌++◌, ℕ}
use Rattle.line.specs.Quoted.{chars}
use Rattle.text.specs.Decimal.{decimal}
pub use Rattle.text.specs.DataSet.{DataSet}
use Rattle.clock.specs.declared.Date.{Date}
use Rattle.clock.specs.declared.Time.{Time}
use Rattle.clock.specs.declared.Stamp.{Stamp}
use Rattle.values.specs.Family.{import_name, export_name}
use Rattle.values.specs.Texts.{serial_text, table_text, date_text, time_text, stamp_text, energy_text}

-- address(value) CR LF
unfoldable pub data_set : List ℕ → List ℕ → List ℕ
data_set address value = address ++ (chars "(" ++ (value ++ chars ")\r\n"))

-- the lines of some data sets, one after the other
unfoldable pub lines_of : List DataSet → List ℕ
lines_of [] = []
lines_of (s ∷ ss) = data_set s.address s.value ++ lines_of ss

-- 0.9.1(hh:nn:ss)
abbrev pub time_set : Time → DataSet
time_set t = record { address = chars "0.9.1"; value = time_text t }

-- 0.9.2(yy-mm-dd)
abbrev pub date_set : Date → DataSet
date_set d = record { address = chars "0.9.2"; value = date_text d }

-- C.1.0(nnn nnnnnnn)
abbrev pub serial_set : List ℕ → DataSet
serial_set s = record { address = chars "C.1.0"; value = serial_text s }

-- 0.0.0(account)
abbrev pub account_set : List ℕ → DataSet
account_set s = record { address = chars "0.0.0"; value = s }

-- what came in, or what went out
unfoldable pub energy_name : ℕ → Bool → List ℕ
energy_name family out = cond out export_name (import_name family)

-- 15.8.n(eeeeee.eee*kWh); 1.8.n and 2.8.n of an EQM meter
abbrev pub energy_set : ℕ → Bool → ℕ → ℕ → DataSet
energy_set family out n count = record { address = energy_name family out ++ decimal 1 n; value = energy_text family count }

-- 131.0.xx(row)
abbrev pub table_set : ℕ → List ℕ → DataSet
table_set n row = record { address = chars "131.0." ++ table_text n; value = row }

-- [12], of the period numbered kk: 0.1.2*kk(yy-mm-dd hh:nn)
abbrev pub closed_set : ℕ → Stamp → DataSet
closed_set k t = record { address = chars "0.1.2*" ++ decimal 2 k; value = stamp_text t }

-- 15.8.n*kk(eeeeee.eee*kWh); 1.8.n*kk and 2.8.n*kk of an EQM meter
abbrev pub kept_set : ℕ → Bool → ℕ → ℕ → ℕ → DataSet
kept_set family out k n count = record { address = energy_name family out ++ (decimal 1 n ++ (chars "*" ++ decimal 2 k)); value = energy_text family count }

abbrev pub line_of : DataSet → List ℕ
line_of s = data_set s.address s.value
