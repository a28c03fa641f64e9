-- [14], "The second link": a meter has one link for life, 1 the optical one or 2 the wired one.
use Rattle.std.specs.Prelude.{ℕ, Bool, cond, ◌==◌}
use Rattle.state.specs.declared.Meter.{Meter}

abbrev pub link_of : Meter → ℕ
link_of m = m.registers.facts.link

unfoldable pub is_wired : ℕ → Bool
is_wired link = link == 2

-- the speed identifier where no session has one of its own: 0 on the optical link, 5 on the wired one, whose speed is fixed
unfoldable pub rest_speed : ℕ → ℕ
rest_speed link = cond (is_wired link) 5 0
