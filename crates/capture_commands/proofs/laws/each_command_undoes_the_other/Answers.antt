use Rattle.capture_commands.proofs.laws.each_command_undoes_the_other.Goals as goal

pub returns-clause-undescribed : goal.returns-clause-undescribed
returns-clause-undescribed c = λ bytes text status is fits. record {
  capture = is.capture;
  read = record { fits = fits; is_capture = is.read.is_capture; described = is.described };
  spelled = is.read.spelled;
  told = is.told;
}

pub returns-clause-described : goal.returns-clause-described
returns-clause-described c = λ bytes text status is fits. record {
  capture = is.capture;
  read = record { fits = fits; is_capture = is.read.is_capture; spelled = is.spelled };
  described = is.read.described;
  told = is.told;
}
