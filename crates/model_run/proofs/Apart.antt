-- No chain of links leads from a system to another: its postings never come there.
use Rattle.std.proofs.Common.{◌≡◌, ◌∙◌, subst, ℕ, List, [], ◌∷◌, ◌++◌, None}
use Rattle.std.specs.Prelude.{true}
use Rattle.echo_addr.specs.declared.address.Address.{Address}
use Rattle.echo_addr.specs.Address.{IsAddress}
use Rattle.echo_filed.specs.Filed.{Filed, key_of}
use Rattle.echo_links.specs.Links.{LinkFile, is_link, upper}
use Rattle.model_graph.{specs.Walk.{Among, Reaches}, proofs.Floods.Walk-push}
use Rattle.model_steps.specs.{declared.{draft.Draft.Draft, stamp.Stamp.Stamp}, Posting.posted}
use Rattle.model_run.{specs.{Event.RunEvent, Fits.FilesFit, Run.{System, run_of}, Tidy.lists}, proofs.{Copies.{Targeted, copied}, HarmLists.among-nth, Places.file-lists, TosserLaws.the_laws}}
use Rattle.model_run.{specs.Losses.NeverComes, proofs.{Flows.{Flowing, Keeps, run-flows}, OneSided.{HasOwnId, Mine, base-count, copied-none, file-in, mine-copied, mine-tag, none-counted, one-writer, posted-holds, posted-own_id}}}

module _ (files : List LinkFile) (tag : List ℕ) (fit : FilesFit files) (a : Address) (is_a : IsAddress a) where
  abbrev Holds : LinkFile → Filed → Type 0
  Holds file m = HasOwnId file m × (Mine tag a m → Reaches (lists files tag) a file.system)

  abbrev Sends : Address → Address → Filed → Type 0
  Sends from to c = (c.sender ≡ None → ⊥) × (Mine tag a c → Reaches (lists files tag) a to)

  posts : (file : LinkFile) → Among file files → (t : List ℕ) (draft : Draft) (serial : ℕ) (stamp : Stamp) → Holds file (posted file t draft serial stamp)
  posts file there t draft serial stamp =
      let fits = fit file there in (
        posted-holds file fits t draft serial stamp,
        λ mine. ([], one-writer tag (upper t) a file.system (posted file t draft serial stamp) is_a fits.address mine (posted-own_id file fits t draft serial stamp)),
      )

  sends : (file : LinkFile) → Among file files → (m : Filed) → Holds file m → (to : Address) → Targeted the_laws file m to → Sends file.system to (copied file m)
  sends file there m holds to target = (
    copied-none file m,
    λ mine_copy.
        let mine = mine-copied tag a file m mine_copy in
        let (rest, walk) = holds.1 mine in
        let link : is_link file tag to ≡ true = subst (λ (t : List ℕ). is_link file t to ≡ true) (mine-tag tag a m mine) target.link in
        (rest ++ to ∷ [], Walk-push (lists files tag) a file.system to rest walk (file-lists files tag file there to link)),
  )

  keeps : Keeps the_laws files Holds Sends
  keeps = record { posts = posts; sends = sends; comes = λ file there from c sent link. (λ own. absurd (sent.0 own), sent.1) }

  pub reached : (events : List RunEvent) (z : System) → Among z (run_of files events).systems → (n : Filed) → Among n z.history → Mine tag a n → Reaches (lists files tag) a z.file.system
  reached events z at_z n h mine =
      let flow : Flowing the_laws files Holds Sends (run_of files events) = run-flows the_laws files Holds Sends keeps fit events in
      let (j, nth_z) = among-nth z (run_of files events).systems at_z in
      (flow.held j z nth_z n h).1 mine

  pub own-id : (events : List RunEvent) (s : System) → Among s (run_of files events).systems → (m : Filed) → Among m s.history → HasOwnId s.file m
  own-id events s at_s m filed =
      let flow : Flowing the_laws files Holds Sends (run_of files events) = run-flows the_laws files Holds Sends keeps fit events in
      let (i, nth_s) = among-nth s (run_of files events).systems at_s in
      (flow.held i s nth_s m filed).0

pub never : (files : List LinkFile) (tag : List ℕ) → FilesFit files → (a b : Address) → ¬ Reaches (lists files tag) a b → NeverComes files tag a b
never files tag fit a b apart events s at_s own m filed posting z at_z at_b =
    let is_a : IsAddress a = subst IsAddress own (fit s.file (file-in files events s at_s)).address in
    let id = own-id files tag fit a is_a events s at_s m filed posting.own in
    let mine : Mine tag a m = subst (λ (t : List ℕ). Mine t a m) posting.area (subst (λ (x : Address). Mine m.echo.tag x m) own id) in
    base-count files fit events z at_z (key_of m)
    ∙ none-counted (key_of m) z.history (λ n h same.
    apart (subst (λ (x : Address). Reaches (lists files tag) a x) at_b (reached files tag fit a is_a events z at_z n h (mine.0, same ∙ mine.1))))
