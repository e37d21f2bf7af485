-- The system of a station: both have the same contents.
use Rattle.{std.proofs.Common.{◌≡◌, sym, subst, ℕ, List, Ok, arith}, echo_links.specs.{Links.{IsFile, LinkFile}, LinkLines.LinksOf}}
use Rattle.{echo_links.proofs.{LinkAnswers.link_only, LinkFiles.file_is_file}, echo_filed.specs.Filed.Filed, model_steps.specs.SystemState.SystemState}
use Rattle.{model_run.specs.Run.{System, state_of}, law_stations.specs.{Agreement.HasSystem, InOrder.StationSays, Nets.Station}}

pub one-file : (bytes : List ℕ) (file other : LinkFile) → LinksOf bytes (Ok file) → LinksOf bytes (Ok other) → file ≡ other
one-file bytes file other h g = grind (arith, link_only)

pub file-fits : (bytes : List ℕ) (file : LinkFile) → LinksOf bytes (Ok file) → IsFile file
file-fits bytes file h = subst IsFile (sym h.1) (file_is_file bytes h.0)

pub says-so : (station : Station) (s : System) → HasSystem station s → StationSays station s.file s.base s.cursor
says-so station s has = record { links = has.links; base = has.base }

pub said-once : (station : Station) (s : System) → HasSystem station s → (file : LinkFile) (messages : List Filed) (cursor : ℕ)
    → StationSays station file messages cursor → (let said : SystemState = record { file = file; base = messages; cursor = cursor } in said ≡ state_of s)
said-once station s has file messages cursor says = grind (arith, one-file)
