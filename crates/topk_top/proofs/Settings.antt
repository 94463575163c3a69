-- The settings that a command has.
use Rattle.std.proofs.Common.{◌≡◌, subst}
use Rattle.command_line.specs.declared.bulking.BulkOptions.{BulkOptions}
use Rattle.command_line.specs.declared.serving.ServeOptions.{ServeOptions}
use Rattle.command_line.specs.declared.running.RunOptions.{RunOptions}
use Rattle.command_line.specs.Bulking.{AreBulkOptions}
use Rattle.topk_base.specs.Ranges.{AreSettings}
use Rattle.command_line.specs.Commands.{HasSettings}
use Rattle.command_line.specs.declared.command.Command.{Command}
use Rattle.command_line.specs.declared.command.Command.TheVariants.{Run, Bulk, Serve}

-- the settings of a run that words ask for
pub run_settings : (command : Command) (options : RunOptions) → command ≡ Run options → HasSettings command → AreSettings options.settings
run_settings command options is has = subst HasSettings is has

-- and the numbers of made queries that they ask for
pub bulk_settings : (command : Command) (options : BulkOptions) → command ≡ Bulk options → HasSettings command → AreBulkOptions options
bulk_settings command options is has = subst HasSettings is has

-- the settings of a server that they ask for
pub serve_settings : (command : Command) (options : ServeOptions) → command ≡ Serve options → HasSettings command → AreSettings options.settings
serve_settings command options is has = subst HasSettings is has
