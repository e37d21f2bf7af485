use Rattle.std.proofs.{Common.{◌≡◌, ◌∙◌, sym, ap, refl, ℕ, ◌+◌, ◌<◌, List, [], ◌∷◌, ◌++◌, length, get_or, map, take}, lemmas.List.{map-append, take_more}}
use Rattle.echo_links.specs.Links.{LinkFile}
use Rattle.model_run.specs.{Run.Run, Run.after_event, Run.after_events, Run.run_of, Run.start, Event.RunEvent, Event.run_event, declared.event.Event.Event}
use Rattle.echo_net.specs.Counts.{packet_counts}

counts-append : (run : Run) (events : List RunEvent) (event : RunEvent) →
    packet_counts run (events ++ event ∷ []) ≡ packet_counts run events ++ length (after_event (after_events run events) event).packets ∷ []
counts-append run [] event = refl
counts-append run (first ∷ events) event =
    ap (λ (ns : List ℕ). length (after_event run first).packets ∷ ns) (counts-append (after_event run first) events event)

pub counts-more : (files : List LinkFile) (events : List Event) (i : ℕ) (event : Event) (counts more : List ℕ) (count : ℕ) →
    i < length events → event ≡ get_or events i event → counts ≡ packet_counts (start files) (map run_event (take i events)) → more ≡ counts ++ count ∷ [] →
    count ≡ length (after_event (run_of files (map run_event (take i events))) (run_event event)).packets →
    more ≡ packet_counts (start files) (map run_event (take (i + 1) events))
counts-more files events i event counts more count within there so_far added is =
    let before = map run_event (take i events) in
    let longer : take (i + 1) events ≡ take i events ++ event ∷ [] = take_more events i event within ∙ ap (λ (e : Event). take i events ++ e ∷ []) (sym there) in
    added ∙ ap (λ (ns : List ℕ). ns ++ count ∷ []) so_far
    ∙ ap (λ (n : ℕ). packet_counts (start files) before ++ n ∷ []) is
    ∙ sym (counts-append (start files) before (run_event event))
    ∙ ap (packet_counts (start files)) (sym (map-append run_event (take i events) (event ∷ [])))
    ∙ ap (λ (es : List Event). packet_counts (start files) (map run_event es)) (sym longer)
