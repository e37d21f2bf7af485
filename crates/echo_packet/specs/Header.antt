-- The 58 bytes at the front of a packet. Numbers have the low byte first.
use Rattle.std.specs.Prelude.{◌≡◌, ℕ, ◌*◌, ◌/◌, ◌%◌, ◌+◌, ◌^◌, ◌<◌, List, [], ◌∷◌, ◌++◌, length, take, drop, slice_index}
pub use Rattle.disk_io.specs.Fixed.{AreBytes}
use Rattle.echo_packet.specs.declared.header.Header.{Header}

-- A number of two bytes, the low one first.
abbrev pub word : ℕ → List ℕ
word n = n % 256 ∷ n / 256 ∷ []

-- The two-byte number at a place.
abbrev pub number_at : ℕ → List ℕ → ℕ
number_at at bs = slice_index bs at + 256 * slice_index bs (at + 1)

-- The fields in the order of the table of FTS-0001, with the packet type 2.
unfoldable pub header_bytes : Header → List ℕ
header_bytes h =
    word h.orig_node ++ (word h.dest_node ++ (word h.year ++ (word h.month ++ (word h.day
    ++ (word h.hour ++ (word h.minute ++ (word h.second ++ (word h.baud ++ (word 2
    ++ (word h.orig_net ++ (word h.dest_net ++ (h.prod_code ∷ h.serial_no ∷ (h.password
    ++ (word h.orig_zone ++ (word h.dest_zone ++ h.fill)))))))))))))))

-- The header with the fields at their offsets in the bytes.
unfoldable pub header_of : List ℕ → Header
header_of bs = record {
  orig_node = number_at 0 bs;
  dest_node = number_at 2 bs;
  year = number_at 4 bs;
  month = number_at 6 bs;
  day = number_at 8 bs;
  hour = number_at 10 bs;
  minute = number_at 12 bs;
  second = number_at 14 bs;
  baud = number_at 16 bs;
  orig_net = number_at 20 bs;
  dest_net = number_at 22 bs;
  prod_code = slice_index bs 24;
  serial_no = slice_index bs 25;
  password = take 8 (drop 26 bs);
  orig_zone = number_at 34 bs;
  dest_zone = number_at 36 bs;
  fill = take 20 (drop 38 bs);
}

-- Each field has the size that the table gives.
pub record IsHeader (h : Header) : Type 0 where
  pub orig_node : h.orig_node < 2 ^ 16
  pub dest_node : h.dest_node < 2 ^ 16
  pub year : h.year < 2 ^ 16
  pub month : h.month < 2 ^ 16
  pub day : h.day < 2 ^ 16
  pub hour : h.hour < 2 ^ 16
  pub minute : h.minute < 2 ^ 16
  pub second : h.second < 2 ^ 16
  pub baud : h.baud < 2 ^ 16
  pub orig_net : h.orig_net < 2 ^ 16
  pub dest_net : h.dest_net < 2 ^ 16
  pub prod_code : h.prod_code < 2 ^ 8
  pub serial_no : h.serial_no < 2 ^ 8
  pub password_len : length h.password ≡ 8
  pub password : AreBytes h.password
  pub orig_zone : h.orig_zone < 2 ^ 16
  pub dest_zone : h.dest_zone < 2 ^ 16
  pub fill_len : length h.fill ≡ 20
  pub fill : AreBytes h.fill
