-- The limits of packets for commands.
use Rattle.std.specs.Prelude.{ℕ, min}
use Rattle.echo_packet.specs.declared.limits.Limits.{Limits}

-- The limits of `show` and `toss`: texts of 16 MiB and any number of messages.
abbrev pub show_limits : Limits
show_limits = record { text = 16777216; messages = 18446744073709551615 }

-- The limits of `toss` with texts of at most this many bytes, never above those of `show`.
abbrev pub limits_for : ℕ → Limits
limits_for most = record { text = min most show_limits.text; messages = show_limits.messages }
