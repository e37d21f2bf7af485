-- The visible state of a run: the filed messages of each system, those that wait, and the missing packets.
use Rattle.std.specs.{Prelude.{ℕ, ◌+◌, ◌==◌, ◌&&◌, nat_le, Bool, List, [], ◌∷◌, drop, length, count_by, bytes_eq, if◌then◌else◌, option_map, unwrap_or}, List.{list_all, list_any}}
use Rattle.model_steps.specs.declared.packet.Packet.{Packet}
use Rattle.echo_filed.specs.Filed.{Filed}
use Rattle.model_run.specs.Run.{Run, nth}

-- The number of messages of the area.
abbrev pub area_count : List ℕ → List Filed → ℕ
area_count tag ms = count_by (λ m. bytes_eq m.echo.tag tag) ms

-- The number of messages of the area at the system of this index, 0 without such a system.
abbrev pub filed_at : Run → ℕ → List ℕ → ℕ
filed_at run i tag = unwrap_or (option_map (λ s. area_count tag s.base) (nth i run.systems)) 0

-- The number of these messages that wait for a scan.
abbrev pub waiting_at : Run → ℕ → List ℕ → ℕ
waiting_at run i tag = unwrap_or (option_map (λ s. area_count tag (drop s.cursor s.base)) (nth i run.systems)) 0

-- The number of packets that were not delivered; the first packet has this index.
abbrev pub missing : List ℕ → ℕ → List Packet → ℕ
missing delivered k [] = 0
missing delivered k (packet ∷ later) = (if list_any (λ d. d == k) delivered then 0 else 1) + missing delivered (k + 1) later

-- The number of packets that were not delivered.
abbrev pub undelivered : Run → ℕ
undelivered run = missing run.delivered 0 run.packets

-- Whether no message waits for a scan and every packet was delivered.
abbrev pub is_settled : Run → Bool
is_settled run = list_all (λ s. nat_le (length s.base) s.cursor) run.systems && (undelivered run == 0)
