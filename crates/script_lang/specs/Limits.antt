-- What every session keeps: how many boards and clients it has, its settings, and the numbers and the fates of its
-- boards. Profile.
use Rattle.std.specs.Prelude.{◌≡◌, ℕ, ◌^◌, ◌≤◌, ◌<◌, true, length}
use Rattle.std.specs.List.{AllByRecursion, list_all}
use Rattle.board_specs.specs.declared.spec.BoardSpec.{BoardSpec}
use Rattle.board_specs.specs.declared.spec.Fates.{Fates}
use Rattle.board_specs.specs.declared.spec.Fates.TheVariants.{Text, Noise}
use Rattle.board_specs.specs.declared.spec.LinkSpec.{LinkSpec}
use Rattle.board_specs.specs.declared.spec.LinkSpec.TheVariants.{Sim, Udp}
use Rattle.packet_ids.specs.Identifier.{IsIdentifier}
use Rattle.world_model.specs.Settings.{AreLimits}
use Rattle.status_packet.specs.Range.{IsMtu, IsBufferCount}
use Rattle.script_lang.specs.declared.refusal.TheConstants.{MAX_BOARDS, MAX_CLIENTS}
use Rattle.script_lang.specs.declared.session.Session.{Session}
use Rattle.script_lang.specs.Texts.{is_fate}

-- a number between two others
pub record IsBetween (least most n : ℕ) : Type 0 where
  pub not_small : least ≤ n
  pub not_large : n ≤ most

-- each character is that of a fate, or the random numbers begin with a number of 32 bits
abbrev pub AreFates : Fates → Type 0
AreFates (Text text) = list_all is_fate text ≡ true
AreFates (Noise number) = number < 2 ^ 32

-- what a simulated board begins with
pub record IsSimulated (mtu buffers first : ℕ) (fates : Fates) : Type 0 where
  pub mtu_in_range : IsMtu mtu
  pub buffers_in_range : IsBufferCount buffers
  pub first_in_range : IsIdentifier first
  pub known_fates : AreFates fates

abbrev pub LinkKeepsRules : LinkSpec → Type 0
LinkKeepsRules (Sim mtu buffers first ranges fates) = IsSimulated mtu buffers first fates
LinkKeepsRules (Udp address port wait) = IsBetween 1 10000 wait

abbrev pub KeepsRules : BoardSpec → Type 0
KeepsRules board = LinkKeepsRules board.link

pub record IsWithin (session : Session) : Type 0 where
  pub some_boards : 1 ≤ length session.boards
  pub few_boards : length session.boards ≤ MAX_BOARDS
  pub few_clients : length session.scripts ≤ MAX_CLIENTS
  pub boards : AllByRecursion KeepsRules session.boards
  pub settings : AreLimits session.settings
