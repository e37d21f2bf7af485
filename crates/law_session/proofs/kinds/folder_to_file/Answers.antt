use Rattle.std.specs.Prelude.{◌∷◌, []}
use Rattle.{cmd_store.specs.Coming.Holds, disk_memory.specs.{Memory.changes_of, declared.memory_disk.MemoryDisk.MemoryDisk}}
use Rattle.{station.specs.Place.Place, station_bases.specs.{InFolder.folder_place, Reading.file_place}}
use Rattle.law_session.specs.{InOrder.IsOrderlySession, Session.{HasReceived, either_of}, declared.kinds.TheConstants.{FIRST_FOLDER, SECOND_FILE}}
use Rattle.law_session.proofs.{Bases.folder-and-file, InOrder.in-order, Readings.ok-so, Whole.whole-session}
use Rattle.law_session.proofs.kinds.folder_to_file.Goals as goal

pub returns : goal.returns
returns g c =
    let keyed = g.H.Digest.keyed in
    let first : Place = folder_place keyed FIRST_FOLDER.now in
    let second : Place = file_place SECOND_FILE.now in
    let files = c.args.files in
    let letter = c.args.letter in
    let body = letter.body.now in
    let sent = c.in_ok-sent.sent in
    let s4 = changes_of sent.disk in
    ok-so c.to_file.result (λ (disk : MemoryDisk). HasReceived second second (Holds sent.packet.items ∷ []) letter.stamp s4 (changes_of disk))
    (λ (disk : MemoryDisk). IsOrderlySession (either_of first second) files.one.now files.two.now files.left.now letter.words body letter.stamp (changes_of disk))
    (λ disk received. in-order files.one.now files.two.now files.left.now (either_of first second) letter.words body letter.stamp (changes_of disk) c.in_ok-judge.ensures
    (whole-session first second (folder-and-file keyed g.met.H.Digest.fits) files.one.now files.two.now files.left.now letter.words body letter.stamp (changes_of c.in-Ok.disk) s4 (changes_of disk)
    c.in-Ok.ensures sent.packet.items c.in_ok-sent.ensures received)) c.to_file.ensures
